pub mod Stages
pub mod Orders
pub mod Shadows
pub mod Directions
pub mod Refusals
pub mod Points
pub mod Fractions
pub mod Finding
