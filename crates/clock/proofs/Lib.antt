-- Laws that several proofs cite, and the theorems.
pub mod Cases
pub mod Judged
pub mod TimeLimits
pub mod RtcLimits
pub mod DayLimits
pub mod SourceLimits
pub mod Numbers
