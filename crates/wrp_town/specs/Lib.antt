pub mod Limits
pub mod Names
pub mod Streets
pub mod Arcs
pub mod Walks
pub mod Classes
