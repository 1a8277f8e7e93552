-- What the crate's contracts cite, and what its theorems are stated with.
pub mod System
pub mod Calls
pub mod Steps
pub mod Bank
pub mod Table
pub mod Starred
pub mod Limits
pub mod Normal
pub mod Refusals
pub mod Lengths
pub mod Carried
pub mod Damage
pub mod Inner
