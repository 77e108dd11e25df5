-- signed bounds, their values and their measure
pub mod Bounds
pub mod Limits
pub mod Measure
pub mod Inputs
pub mod Views
-- the comparison of bounds
pub mod Safe
pub mod Products
pub mod Fits
pub mod Covers
pub mod Within
pub mod Reflexive
-- worked values
pub mod Worked
-- the crates below, which callers name through this one
pub use Rattle.poly_terms.specs as poly_terms
pub use Rattle.poly_terms.specs.model
