pub mod Visits
pub mod Searches
pub mod Times
pub mod Scaled
pub mod Pieces
pub mod Circuits
pub mod Costs
