-- Sums and products of certificates don't overflow.
pub mod Products
pub mod Columns
pub mod Sums
pub mod RowLists
mod WorkedSizes
-- The lemmas of the crates below, which callers name through this one.
pub use Rattle.poly_terms.proofs.model
