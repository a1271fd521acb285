pub mod Webs
pub mod Nets
pub mod Searching
pub mod TownWebs
