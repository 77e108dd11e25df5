-- The definitions that public contracts cite.
pub mod Views
pub mod Limits
pub mod Numbers
pub mod Tidy
pub mod Measure
pub mod Capped
pub mod Substitution
pub mod Growth
pub mod Worked
-- further definitions that proofs and the crates above cite
pub mod Kinds
-- the crates below, which callers name through this one
pub use Rattle.model.specs as model
