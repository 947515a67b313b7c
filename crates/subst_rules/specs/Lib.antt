pub mod Uses
pub mod Walks
pub mod Sizes
pub mod Replaced
pub mod Refused
pub mod Kernels
pub mod Ready
