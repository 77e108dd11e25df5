-- The specs that contracts of this crate and of other crates cite.
pub mod Files
pub mod Texts
pub mod Turns
pub mod Views
-- Laws and worked values.
pub mod Laws
pub mod Worked
-- The crates below, which callers name through this one.
pub use Rattle.lasso_check.specs as lasso_check
pub use Rattle.moving_check.specs as moving_check
