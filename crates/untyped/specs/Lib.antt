pub mod Trees
pub mod Indexes
pub mod Readings
pub mod Asked
pub mod Exprs
pub mod Depths
