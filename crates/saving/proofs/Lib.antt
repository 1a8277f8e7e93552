pub mod Laid
pub mod Copying
pub mod Digits
pub mod Tables
pub mod Entire
