-- The specs that contracts of this crate and of other crates cite.
pub mod Sizes
pub mod Scales
-- Laws and worked values.
pub mod WorkedSizes
-- The definitions for the internal functions and the proofs.
pub mod Columns
-- The crates below, which callers name through this one.
pub use Rattle.poly_terms.specs.model
pub use Rattle.linear_forms.specs as linear_forms
