pub mod Copying
pub mod Digits
pub mod Tables
pub mod Cells
pub mod Deciding
pub mod Entire
pub mod Alls
