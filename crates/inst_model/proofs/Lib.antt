pub mod Local
pub mod Swaps
pub mod Kernels
pub mod Written
