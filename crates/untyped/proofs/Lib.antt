pub mod Layers
mod Collecting
pub mod Depths
mod MadeDepths
