-- The entries of lines, and the problem of a question.
pub mod Entries
pub mod Problems
pub mod WriterLaws
pub mod Pieces
pub mod CostLists
pub mod Groups
pub mod Built
-- The lemmas of the crates below, which callers name through this one.
pub use Rattle.simplex_core.proofs as simplex_core
