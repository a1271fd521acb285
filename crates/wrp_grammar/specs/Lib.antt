pub mod Parts
pub mod Numbers
pub mod Words
pub mod Shapes
pub mod Fronts
pub mod Spelling
pub mod Reading
