-- Lemmas of this crate.
pub mod Differences
pub mod Factors
pub mod Combining
pub mod Primitive
pub mod Pivots
pub mod Merging
pub mod Factoring
pub mod Dividing
pub mod Searching
pub mod Without
pub mod Listing
pub mod Applying
pub mod Changing
pub mod Assembly
pub mod Costs
pub mod Starting
pub mod Starts
