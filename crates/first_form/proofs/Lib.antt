pub mod Runs
pub mod Fronts
pub mod Factors
pub mod NameLists
pub mod LineTexts
pub mod FormTexts
pub mod Shown
