pub mod Headers
pub mod Costs
pub mod Faults
pub mod Rows
pub mod Tables
pub mod Growing
pub mod Spelled
pub mod Canonical
