-- The laws that this crate and those above it cite: of IEEE 754, of tests, of outcomes.
pub mod Choice
pub mod Clear
pub mod Bits
pub mod Cuts
pub mod Good
pub mod Round
pub mod Order
pub mod Mono
pub mod Words
pub mod Unique
pub mod Answered
pub mod Numbers
pub mod Judged
pub mod Tables
pub mod Rows
pub mod Finite
pub mod Flags
