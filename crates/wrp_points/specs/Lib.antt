pub mod Points
pub mod Boxes
pub mod Balances
pub mod Demands
pub mod Tables
