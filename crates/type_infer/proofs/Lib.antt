pub mod Walks
mod SameCalls
pub mod Filling
mod LeadTables
mod KindTables
pub mod Marks
pub mod TempKinds
mod AllowedCalls
mod KernelRules
mod Agreement
mod KernelTyped
mod InferredFormed
mod Validity
mod RowFacts
