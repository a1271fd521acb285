pub mod Reaching
pub mod Answers
pub mod Components
pub mod Search
pub mod Outside
