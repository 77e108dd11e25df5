-- The definitions that the contracts of this crate, and of crates above it, cite.
pub mod Tightening
pub mod Prepared
pub mod Views
-- Laws and worked values.
pub mod Laws
pub mod WorkedRows
pub mod WorkedPoints
-- The crates below, which callers name through this one.
pub use Rattle.poly_terms.specs.model
pub use Rattle.poly_terms.specs.linear_forms
pub use Rattle.poly_terms.specs as poly_terms
pub use Rattle.its_model.specs as its_model
