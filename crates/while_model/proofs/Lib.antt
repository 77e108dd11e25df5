pub mod Members
mod Segments
pub mod Sources
mod Tests
mod Routes
pub mod Numbers
pub mod Rules
pub mod Runs
pub mod Translating
pub mod FreeNames
mod WorkedPrograms
-- The lemmas of the crate below, which callers name through this one.
pub use Rattle.model.proofs as model
