-- What the theorems are stated with.
pub mod Typed
pub mod Holds
pub mod AsRust
pub mod Turns
