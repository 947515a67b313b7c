pub mod Cases
pub mod Verdicts
pub mod Implications
pub mod Bounding
pub mod Hulls
