-- What the crate's contracts cite.
pub mod Each
pub mod Parts
pub mod Bank
pub mod Packed
