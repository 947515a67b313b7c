pub mod Parts
pub mod Stores
pub mod TwoWriters
pub mod Update
pub mod EmptySum
pub mod Temporary
pub mod RuleUses
