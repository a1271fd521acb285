pub mod Streams
pub mod Fields
pub mod Lines
