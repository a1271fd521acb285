-- Laws of boxes.
pub mod Relaxed
pub mod OnlyPoints
pub mod Fitting
pub mod Writable
pub mod Shown
