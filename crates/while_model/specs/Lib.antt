-- The specs of this crate, and those of `model`, which callers name through this crate.
pub mod Statements
pub mod Executions
pub mod Moves
pub mod Translation
-- laws
pub mod Laws
pub mod Worked
-- the crate below, which callers name through this one
pub use Rattle.model.specs as model
