-- Laws of the live calls, and the theorems over sequences of them.
pub mod Calls
pub mod Took
pub mod Bulk
pub mod Sequence
