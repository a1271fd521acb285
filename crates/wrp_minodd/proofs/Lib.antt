-- Laws of the search for odd cuts.
pub mod Pushed
pub mod Nodes
pub mod Nets
pub mod Farness
pub mod Noting
pub mod Seeing
pub mod Looking
pub mod Steps
