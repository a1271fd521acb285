pub mod CountFacts
mod ReadFacts
pub mod OutsideFacts
