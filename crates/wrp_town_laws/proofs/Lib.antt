pub mod Lists
pub mod OneWay
pub mod Demands
pub mod MoreStreets
mod RowTowns
