pub mod Digits
pub mod Stands
pub mod Long
pub mod Widths
pub mod Facts
pub mod Packed
