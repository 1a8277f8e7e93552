-- What the crate's contracts cite, and what its theorems are stated with.
pub mod Times
pub mod Rtc
pub mod Day
pub mod Sources
pub mod Adc
pub mod Within
pub mod Table
