-- What the crate's contracts cite, and what its theorems are stated with.
pub mod Timers
pub mod Sound
pub mod Within
pub mod Table
pub mod Events
pub mod Canonical
pub mod Story
pub mod Inner
pub mod Straight
