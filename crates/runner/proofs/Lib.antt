-- Laws of the loops and of the bytes.
pub mod Runs
pub mod Inside
