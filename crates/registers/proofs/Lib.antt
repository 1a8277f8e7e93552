-- Laws that several proofs cite, and the theorems.
pub mod Cases
pub mod Search
pub mod Shifts
pub mod Loops
pub mod Own
pub mod Slots
pub mod Spots
pub mod Order
pub mod Moving
pub mod Wider
pub mod Tidy
pub mod Every
pub mod Reading
pub mod Same
pub mod Count
pub mod Stays
pub mod Unique
