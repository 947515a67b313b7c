pub mod Orders
pub mod Additions
