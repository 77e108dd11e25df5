-- Laws of lassos whose turns move on, and of their texts.
pub mod Verdicts
mod MovingTurns
mod GoingOn
mod Places
mod Exits
pub mod Forms
mod WorkedMoving
-- The lemmas of the crates below, which callers name through this one.
pub use Rattle.lasso_check.proofs as lasso_check
