pub mod Spelling
pub mod FormText
pub mod Spelled
pub mod ValueText
pub mod Standing
pub mod KernelText
