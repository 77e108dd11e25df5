-- what the contracts of this crate, and of those above it, cite
pub mod Copies
pub mod Laws
-- values that were worked out by hand
pub mod Worked
