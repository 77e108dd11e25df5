-- The definitions that the contracts of this crate, and of crates above it, cite.
pub mod Certified
-- laws and worked values
pub mod Laws
pub mod Worked
-- the crates below, which callers name through this one
pub use Rattle.refinement.specs.model
pub use Rattle.refinement.specs as refinement
pub use Rattle.guard_prep.specs.linear_forms
pub use Rattle.guard_prep.specs.poly_terms
pub use Rattle.guard_prep.specs.its_model
pub use Rattle.guard_prep.specs as guard_prep
