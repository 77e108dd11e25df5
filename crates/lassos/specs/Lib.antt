-- The definitions and laws of lassos.
pub mod Lassos
-- Laws and worked values.
pub mod Laws
pub mod Worked
-- the crate below, which callers name through this one
pub use Rattle.model.specs as model
