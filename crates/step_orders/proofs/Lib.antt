pub mod Lists
pub mod Like
pub mod Sums
