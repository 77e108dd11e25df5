-- The definitions that the contracts of this crate, and of crates above it, cite.
pub mod Faults
-- laws
pub mod Laws
-- the crates below, which callers name through this one
pub use Rattle.refined_programs.specs as refined_programs
pub use Rattle.refinement_rows.specs as refinement_rows
