pub mod Keeps
pub mod Joins
pub mod Appends
pub mod Faults
pub mod Calls
pub mod Starts
pub mod Reopens
