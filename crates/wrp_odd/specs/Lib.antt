pub mod Points
pub mod Cuts
pub mod Crossing
pub mod Merging
pub mod Found
