-- The definitions that the contracts of this crate, and of crates above it, cite.
pub mod Affine
pub mod Annotated
pub mod Views
pub mod Ends
-- worked values
pub mod Worked
-- the crates below, which callers name through this one
pub use Rattle.refinement.specs.model
pub use Rattle.refinement.specs as refinement
pub use Rattle.its_model.specs.poly_terms
pub use Rattle.its_model.specs as its_model
