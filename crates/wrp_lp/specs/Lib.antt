pub mod Relaxed
pub mod Building
pub mod Reading
pub mod Programs
pub mod Wholes
pub mod Answers
