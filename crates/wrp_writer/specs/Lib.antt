pub mod Seen
pub mod Limits
