pub mod Members
pub mod Lifting
pub mod Sums
pub mod Bounds
mod Spelling
pub mod Cases
mod Rights
pub mod Shown
mod Weaker
pub mod Keeping
pub mod WorkedSections
mod WorkedPrograms
mod WorkedCosts
-- the lemmas of the crate below, which callers name through this one
pub use Rattle.model.proofs as model
