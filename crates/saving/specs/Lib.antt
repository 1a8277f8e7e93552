-- What the crate's contracts cite beside crate session's.
pub mod Inner
