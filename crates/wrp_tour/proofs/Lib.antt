pub mod Pieces
pub mod Uses
pub mod LeanTours
pub mod Rounds
