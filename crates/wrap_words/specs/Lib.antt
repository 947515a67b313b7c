pub mod Words
pub mod Residues
