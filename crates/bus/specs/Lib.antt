-- What the crate's contracts cite, and what its theorems are stated with.
pub mod World
pub mod Chip
pub mod Rtc
pub mod Screen
pub mod Sounds
pub mod Words
pub mod Write
pub mod Read
pub mod Bank
pub mod Inner
pub mod Answers
