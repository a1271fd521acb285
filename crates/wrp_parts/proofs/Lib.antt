pub mod Visits
pub mod Spreading
pub mod Order
pub mod Edges
pub mod Whole
