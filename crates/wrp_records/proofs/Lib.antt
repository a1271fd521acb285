mod Enough
mod Taking
mod FieldAt
mod Trimming
pub mod ReadBack
mod Writing
