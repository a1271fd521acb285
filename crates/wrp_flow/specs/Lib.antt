pub mod Flows
pub mod Sides
pub mod Searches
pub mod Pushes
pub mod Cuts
