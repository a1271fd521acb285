pub mod Values
pub mod Mults
