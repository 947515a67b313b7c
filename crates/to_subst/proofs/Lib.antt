pub mod VarsDiffer
