pub mod Spread
pub mod Words
pub mod Puts
pub mod Packs
pub mod Each
