-- Laws of the sets of a candidate, and of its row.
pub mod Parts
pub mod ChainSets
pub mod Sums
pub mod Records
pub mod Broken
