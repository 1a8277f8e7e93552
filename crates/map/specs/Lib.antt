-- The numbers, for the definitions.
pub mod Numbers
pub mod Refusals
