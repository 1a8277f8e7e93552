pub mod Line
pub mod Bytes
pub mod Served
