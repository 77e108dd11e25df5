mod EndLists
mod EndObligations
mod Preparing
mod Verdicts
mod Stages
mod Keeping
mod Naming
-- the lemmas of the crate below, which callers name through this one
pub use Rattle.section_decide.proofs as section_decide
