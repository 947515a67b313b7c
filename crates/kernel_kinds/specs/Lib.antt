pub mod Calls
pub mod Refused
pub mod Leads
pub mod Asked
pub mod Tables
pub mod Kinds
pub mod Laws
