-- What each kind of entry does, and where its answer is stored.
pub mod Turns
pub mod Refused
pub mod Laying
