mod FormVars
mod PartedTrees
pub mod SplitDepths
