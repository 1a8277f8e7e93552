pub mod Clocks
pub mod Irq
pub mod Advance
pub mod Resync
pub mod Next
pub mod Within
pub mod Bank
pub mod Inner
