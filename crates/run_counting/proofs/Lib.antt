-- The counting lemma of runs, and proofs of its worked values.
pub mod Counting
pub mod Accounts
-- The lemmas of the crates below, which callers name through this one.
pub use Rattle.model.proofs as model
