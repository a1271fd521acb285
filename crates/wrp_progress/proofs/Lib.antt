-- Laws of lists that go on, for the crates above.
pub mod Growing
pub mod Counting
pub mod Keeping
pub mod Branching
pub mod OnePoint
pub mod Unlabelled
pub mod Meeting
pub mod Lows
pub mod Ends
