pub mod Ring
pub mod Products
pub mod WordBits
pub mod Fitting
