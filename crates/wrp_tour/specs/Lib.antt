pub mod Tours
pub mod Thinning
pub mod Plain
