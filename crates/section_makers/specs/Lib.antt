-- The definitions that the contracts of this crate, and of crates above it, cite.
pub mod Lighter
-- laws
pub mod Laws
-- the crates below, which callers name through this one
pub use Rattle.refinement.specs as refinement
