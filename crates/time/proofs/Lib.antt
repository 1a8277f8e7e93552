-- Laws that several proofs cite, and the theorems.
pub mod Cases
pub mod Clockwork
pub mod Asks
pub mod Limits
pub mod Recount
pub mod Unique
