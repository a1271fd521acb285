pub mod Counts
pub mod Outside
pub mod Faulty
pub mod Steady
pub mod Tally
