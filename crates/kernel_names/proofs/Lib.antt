pub mod NameLaws
mod TableLaws
pub mod FaultLaws
mod CellLaws
