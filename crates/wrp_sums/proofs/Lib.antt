-- Laws of whole numbers and of their sums, for the crates above.
pub mod Integers
pub mod SumsOver
pub mod FirstNumbers
pub mod SparseRows
pub mod RoundedUp
pub mod WeakDuality
