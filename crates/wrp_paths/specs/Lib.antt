pub mod Arrivals
pub mod Distances
pub mod Search
