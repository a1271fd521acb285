-- Laws of the causes of records.
pub mod Prefixes
pub mod Starts
pub mod Same
pub mod Ending
pub mod Rounded
pub mod PointNumbers
pub mod PointRules
pub mod Values
pub mod Offering
pub mod CutCauses
pub mod Pools
