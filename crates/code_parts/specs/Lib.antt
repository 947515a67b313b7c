pub mod SameCounts
