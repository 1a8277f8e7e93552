pub mod Rule
pub mod Text
pub mod Machine
pub mod Lines
pub mod Inner
