-- Laws that several proofs cite, and the theorems.
pub mod Cases
pub mod Limits
pub mod Tones
pub mod Judged
pub mod Numbers
pub mod Laid
pub mod Places
pub mod Waiting
pub mod Tidy
pub mod Finite
pub mod Straight
pub mod Fifo
pub mod Unique
