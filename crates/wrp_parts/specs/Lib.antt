pub mod RequiredParts
pub mod Neighbours
pub mod Traversal
