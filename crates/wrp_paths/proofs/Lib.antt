pub mod Tables
pub mod Queues
pub mod Searches
pub mod Ends
