pub mod Inputs
pub mod Words
pub mod Statuses
pub mod Outsides
pub mod Searches
pub mod Runs
pub mod Files
