-- the lists of start values at which bounds are compared
pub mod Starts
-- bounds at lists of start values
pub mod Comparing
-- values that were worked out by hand
pub mod Worked
-- the crates below, which callers name through this one
pub use Rattle.poly_terms.specs as poly_terms
pub use Rattle.bound_expr.specs as bound_expr
pub use Rattle.signed_bounds.specs as signed_bounds
