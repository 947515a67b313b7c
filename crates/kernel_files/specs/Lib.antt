pub mod Options
pub mod Insns
pub mod Files
pub mod FirstLine
pub mod Reading
