pub mod Access
pub mod Bytes
pub mod Places
pub mod Table
