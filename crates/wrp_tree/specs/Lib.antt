pub mod Entries
pub mod Indexes
pub mod Boxes
pub mod Keeping
pub mod Plans
pub mod Leaks
pub mod Trees
