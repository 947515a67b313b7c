pub mod Numbered
pub mod Said
pub mod Roles
pub mod Tables
pub mod Lines
pub mod Readings
pub mod Ids
