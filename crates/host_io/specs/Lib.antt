pub mod Files
pub mod MemoryHost
pub mod Reader
pub mod RealHost
pub mod Setup
pub mod Told
