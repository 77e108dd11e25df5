-- The definitions that the contracts of this crate, and of crates above it, cite.
pub mod Deciding
-- laws and worked values
pub mod Laws
pub mod Worked
-- the crate below, which callers name through this one
pub use Rattle.section_checks.specs as section_checks
