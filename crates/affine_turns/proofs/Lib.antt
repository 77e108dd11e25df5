-- Laws of integers that change by the same amount in each turn, and of turns that pass the test of moving on.
pub mod AffineValues
pub mod SeenTurns
mod WorkedTurns
mod Loops
-- The lemmas of the crates below, which callers name through this one.
pub use Rattle.poly_terms.proofs as poly_terms
pub use Rattle.its_model.proofs as its_model
pub use Rattle.lassos.proofs as lassos
