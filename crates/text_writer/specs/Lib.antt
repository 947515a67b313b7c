pub mod Bytes
pub mod NumberText
