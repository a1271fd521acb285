-- Laws of tours and of valid lists of records, for the crates above.
pub mod Counts
pub mod Balances
pub mod BaseRows
pub mod DualBounds
pub mod Rules
pub mod Thinning
pub mod Crossings
pub mod Chains
pub mod CutRows
pub mod Boxes
pub mod NodeCount
pub mod Lower
pub mod Labels
pub mod AllEnds
pub mod PointCosts
