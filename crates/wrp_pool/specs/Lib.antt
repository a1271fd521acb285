pub mod Pools
pub mod Tallies
pub mod Members
pub mod Cuts
pub mod Rounds
pub mod Chains
pub mod Sparse
