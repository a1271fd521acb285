-- Lemmas of this crate.
pub mod Basics
pub mod Lines
pub mod Follows
pub mod Bounds
pub mod Duals
pub mod Choosing
pub mod Runs
pub mod Ratios
pub mod Stuck
