pub mod NodeLists
pub mod Keeping
pub mod Changes
pub mod Splitting
pub mod Least
pub mod Entering
pub mod Leaving
