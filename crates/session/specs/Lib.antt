-- What the contracts of the crate, and of saving and resuming, cite.
pub mod Fields
pub mod Layout
pub mod Sections
pub mod Read
pub mod Good
pub mod Session
