-- The specs that contracts of this crate and of other crates cite.
pub mod Constants
-- Worked values.
pub mod Worked
-- The crates below, which callers name through this one.
pub use Rattle.poly_terms.specs as poly_terms
