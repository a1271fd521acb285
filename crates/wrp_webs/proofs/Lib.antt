-- Laws of webs and of the web of a town, for the crates above.
pub mod SumsBelow
pub mod Uncrossing
pub mod Splitting
pub mod Shrinking
pub mod Pending
pub mod Search
pub mod Pairs
pub mod Nets
pub mod LegalSums
pub mod Demands
pub mod OddRows
pub mod Found
pub mod MinOdd
pub mod ConnRows
pub mod PartSets
pub mod ConnFound
