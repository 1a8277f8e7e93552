-- What the crate's contracts cite, and what the laws are stated with.
pub mod Cut
pub mod Limits
pub mod Bounds
pub mod Words
pub mod Table
pub mod Edges
pub mod Forms
pub mod Rows
