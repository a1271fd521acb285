pub mod DemandLaws
pub mod Lists
pub mod Members
pub mod ServiceLaws
pub mod TownLaws
pub mod WalkLaws
