-- The specs that contracts of this crate and of other crates cite.
pub mod Texts
pub mod Findings
pub mod Answers
-- Laws and worked values.
pub mod Laws
pub mod Worked
-- The crates below, which callers name through this one.
pub use Rattle.lasso_check.specs as lasso_check
pub use Rattle.affine_turns.specs as affine_turns
