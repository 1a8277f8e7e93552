pub mod Cases
pub mod Texts
pub mod Runs
pub mod ByLines
