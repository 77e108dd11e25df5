-- The specs that contracts of this crate and of other crates cite.
pub mod Entries
pub mod Descriptions
pub mod Builders
pub mod Problems
-- The crates below, which callers name through this one.
pub use Rattle.simplex_core.specs as simplex_core
pub use Rattle.poly_terms.specs as poly_terms
