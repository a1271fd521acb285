pub mod Turns
pub mod TurnTowns
pub mod Needs
pub mod Faults
pub mod BanFiles
pub mod Refusals
