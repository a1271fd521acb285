pub mod Runs
pub mod Hard
pub mod Roundings
pub mod Licences
pub mod Causes
