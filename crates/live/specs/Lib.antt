-- What the contracts of the live entries cite, and what the theorems over them are stated with.
pub mod Live
pub mod Sequence
pub mod Inner
