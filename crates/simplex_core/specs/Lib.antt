-- The specs that contracts of this crate and of other crates cite.
pub mod Tableau
pub mod Bland
pub mod Problem
pub mod Outcome
pub mod Agreement
pub mod Scaling
pub mod HitsLimit
-- Laws and worked values.
pub mod Laws
-- The definitions for the internal functions and the proofs.
pub mod Search
pub mod Sizes
pub mod Positions
pub mod Lines
pub mod Cells
pub mod ColumnListing
pub mod ColumnTables
pub mod ColumnBuilding
pub mod ColumnResults
pub mod TableClauses
pub mod Halts
pub mod Numbers
pub mod Building
-- The crates below, which callers name through this one.
pub use Rattle.int_laws.specs as int_laws
pub use Rattle.linear_forms.specs as linear_forms
