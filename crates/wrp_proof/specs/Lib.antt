pub mod Kinds
pub mod Views
pub mod Ends
pub mod JudgedLines
