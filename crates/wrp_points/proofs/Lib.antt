pub mod NumberSums
pub mod FewPairs
pub mod Surplus
pub mod InBox
pub mod Services
pub mod LegalArcs
