-- No basis occurs twice, and how many bases there are.
pub mod Canonical
pub mod Kernels
pub mod Directions
pub mod SameBases
pub mod Steps
pub mod Fractions
pub mod Walks
pub mod Fickle
pub mod Sequences
pub mod Pivoted
pub mod Ranks
pub mod Counts
pub mod Binomials
pub mod Budgets
pub mod OneEnd
pub mod WorkedBases
pub mod WorkedPivots
-- The lemmas of the crates below, which callers name through this one.
pub use Rattle.simplex_core.proofs as simplex_core
