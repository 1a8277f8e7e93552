-- The branches of the definitions, laws by subject, and uniqueness.
pub mod Table
pub mod Whole
pub mod Cases
pub mod Unique
