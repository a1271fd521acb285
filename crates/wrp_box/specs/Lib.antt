pub mod Relaxing
pub mod Branching
pub mod Points
pub mod Records
