pub mod Candidates
pub mod Chains
