pub mod Mentions
pub mod Marked
pub mod Leads
pub mod Rows
pub mod Conjuncts
