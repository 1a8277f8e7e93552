-- What the crate's contracts cite, and what its theorems are stated with.
pub mod Block
