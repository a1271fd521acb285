-- Lemmas of this crate.
pub mod Slacks
pub mod Multiples
pub mod Exact
pub mod Values
pub mod ArcLines
pub mod Boxes
pub mod Sides
pub mod Numbers
pub mod Optimum
pub mod Columns
pub mod Denominators
pub mod Readings
pub mod Making
pub mod Endings
pub mod Stands
