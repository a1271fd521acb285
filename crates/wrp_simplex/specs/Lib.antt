pub mod Steps
pub mod Ends
pub mod Lines
pub mod Follows
pub mod BasicSolutions
pub mod Candidates
pub mod Runs
