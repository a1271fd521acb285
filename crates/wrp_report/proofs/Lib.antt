pub mod Grids
pub mod Drawn
pub mod LastTours
