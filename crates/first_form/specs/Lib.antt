pub mod Names
pub mod Form
pub mod Refused
pub mod Kernels
pub mod Codes
pub mod Scans
pub mod Lines
pub mod Refusals
