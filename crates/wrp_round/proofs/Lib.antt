-- Lemmas of this crate.
pub mod Placing
pub mod Named
pub mod Judged
pub mod Gathered
pub mod Optimum
pub mod Forms
pub mod FormRules
pub mod FormRows
pub mod Cuts
