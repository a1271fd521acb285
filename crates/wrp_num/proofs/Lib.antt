-- Lemmas of this crate.
mod Quotients
mod Divisors
