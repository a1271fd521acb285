pub mod Relaxing
pub mod Served
