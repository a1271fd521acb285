pub mod Meets
pub mod Sides
pub mod Boxes
pub mod Points
pub mod Ends
