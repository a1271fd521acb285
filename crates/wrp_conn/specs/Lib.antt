pub mod Conns
pub mod Founds
pub mod Shrunk
