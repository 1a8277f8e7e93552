pub mod Access
pub mod Aligned
pub mod Cases
pub mod Copied
pub mod Judged
pub mod Stored
