mod SquareLaws
pub mod RowTermLaws
pub mod WorkedLemmas
pub mod WholeLaws
-- the lemmas of the crates below, which callers name through this one
pub use Rattle.guard_prep.proofs as guard_prep
pub use Rattle.potential_nodes.proofs as potential_nodes
