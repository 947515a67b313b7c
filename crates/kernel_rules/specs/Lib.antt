pub mod Accesses
pub mod Kept
pub mod Rows
pub mod Pairs
