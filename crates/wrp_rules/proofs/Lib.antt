pub mod LegalArcs
pub mod TwoWays
