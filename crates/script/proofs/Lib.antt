-- What the output holds, and the theorems.
pub mod Laid
pub mod Fold
pub mod Wiped
pub mod Cut
pub mod Within
pub mod Unique
