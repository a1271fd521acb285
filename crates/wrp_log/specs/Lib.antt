pub mod Payloads
pub mod Logs
pub mod Steps
pub mod Replays
pub mod Sound
