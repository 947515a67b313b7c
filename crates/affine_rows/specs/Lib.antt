pub mod formers
pub mod Rows
pub mod Forms
pub mod Reach
pub mod Reduced
