-- The definitions of towns, records and proofs, tried on towns whose answers can be worked out by hand.
mod Towns
mod Lists
mod Refusals
mod Order
mod Limits
mod Lines
mod Classes
