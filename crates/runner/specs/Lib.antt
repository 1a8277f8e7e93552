-- What the contracts of this crate and of crate script cite, and what the theorems over scripts are stated with.
pub mod Format
pub mod Script
pub mod Inner
