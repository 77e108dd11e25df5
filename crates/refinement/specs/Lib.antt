-- The definitions that the contracts of this crate, and of crates above it, cite.
pub mod Simulation
pub mod Lifted
pub mod Sections
pub mod Obligations
-- laws and worked values
pub mod Laws
pub mod Worked
-- the crate below, which callers name through this one
pub use Rattle.model.specs as model
