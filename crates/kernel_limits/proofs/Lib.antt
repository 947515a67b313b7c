mod SameAccess
mod Steps
mod Outcomes
mod SizeSteps
pub mod Together
