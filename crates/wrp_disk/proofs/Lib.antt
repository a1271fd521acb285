pub mod Time
mod MemoryCalls
mod Kept
