pub mod KindLaws
pub mod LineLaws
pub mod FaultLaws
pub mod Narrow
pub mod WorkedSpelling
