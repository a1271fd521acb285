pub mod Valued
pub mod Scaled
