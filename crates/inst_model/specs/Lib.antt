pub mod Memory
pub mod Arguments
pub mod Instances
pub mod Running
pub mod Sound
