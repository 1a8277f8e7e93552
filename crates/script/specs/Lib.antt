-- What the crate's theorems are stated with.
pub mod Fold
