pub mod Circuits
pub mod Faults
pub mod Trails
