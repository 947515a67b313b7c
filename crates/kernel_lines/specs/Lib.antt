pub mod Places
pub mod Rows
pub mod Conditions
pub mod Parts
pub mod Lines
pub mod Refusals
pub mod Stores
pub mod Values
