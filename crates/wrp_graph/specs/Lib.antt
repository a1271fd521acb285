pub mod Stars
pub mod Balances
pub mod Pieces
pub mod Sorted
