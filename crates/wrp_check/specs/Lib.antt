pub mod Streams
pub mod Verdicts
pub mod Gathered
pub mod Values
pub mod Leaks
pub mod Marks
pub mod Judging
pub mod Passes
