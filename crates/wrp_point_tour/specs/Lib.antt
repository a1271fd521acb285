pub mod PointTours
pub mod Counts
pub mod Search
