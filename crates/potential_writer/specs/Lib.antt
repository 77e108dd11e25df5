-- what the contracts of this crate, and of those above it, cite
pub mod Parts
pub mod Bounds
pub mod Lemmas
pub mod Claims
-- values that were worked out by hand
pub mod Worked
