-- The definitions that the contracts of this crate, and of crates above it, cite.
pub mod Views
-- laws
pub mod Laws
-- further definitions, for internal contracts
pub mod Stages
-- the crate below, which callers name through this one
pub use Rattle.section_decide.specs as section_decide
