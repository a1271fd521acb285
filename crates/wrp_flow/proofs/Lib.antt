-- Laws of flows, of searches along sides with room, and of pushes.
pub mod Flows
pub mod Pushes
pub mod Sides
pub mod Searches
pub mod Stars
pub mod Pushing
pub mod Cuts
pub mod Rooms
pub mod Nets
