-- The branches of the definitions, laws by subject, and uniqueness.
pub mod Parts
pub mod Slots
pub mod Values
pub mod Sizes
pub mod Cases
pub mod Drawn
pub mod BankedWords
pub mod BankedWrites
pub mod Branches
pub mod Boards
pub mod Unique
