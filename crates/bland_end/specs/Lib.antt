-- The specs that contracts of this crate and of other crates cite.
pub mod Bases
pub mod Pivoted
pub mod Counting
pub mod Laws
pub mod Whole
-- Worked values.
pub mod Worked
pub mod WorkedPivots
-- The crates below, which callers name through this one.
pub use Rattle.simplex_core.specs as simplex_core
