mod SixFields
mod DigitSteps
pub mod Costs
pub mod Stops
pub mod Places
pub mod RowSteps
pub mod RowFacts
pub mod TownSteps
pub mod Spelling
pub mod FieldsBack
pub mod TownBack
pub mod TextSize
pub mod TextSteps
