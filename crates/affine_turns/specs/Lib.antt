-- The specs that contracts of this crate and of other crates cite.
pub mod Affine
pub mod Turns
pub mod Stops
-- Laws and worked values.
pub mod Laws
pub mod Worked
-- The crates below, which callers name through this one.
pub use Rattle.its_model.specs as its_model
pub use Rattle.lassos.specs as lassos
