-- Laws of lasso files and of turns that can be repeated.
pub mod FileTexts
pub mod OneTurn
mod EndlessTurns
mod WorkedFiles
-- The lemmas of the crates below, which callers name through this one.
pub use Rattle.lasso_check.proofs as lasso_check
pub use Rattle.moving_check.proofs as moving_check
