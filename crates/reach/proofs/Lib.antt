-- Laws that the proofs cite, and the theorems.
pub mod Cases
pub mod View
pub mod Witness
pub mod Kept
pub mod Exactly
