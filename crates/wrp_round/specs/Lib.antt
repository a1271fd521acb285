pub mod Roundings
pub mod Optima
pub mod Judging
pub mod Broken
pub mod Places
pub mod Gathering
pub mod OddForms
