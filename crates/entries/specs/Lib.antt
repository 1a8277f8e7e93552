-- What the contracts of this crate and of those above it cite, and what the theorems over scripts are stated with.
pub mod Answers
pub mod Turn
pub mod Inner
