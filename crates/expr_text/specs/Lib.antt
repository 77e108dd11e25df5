-- The definitions that the contracts of this crate, and of crates above it, cite.
pub mod Pieces
pub mod Trees
pub mod Terms
pub mod GrammarStates
pub mod Steps
pub mod Guards
pub mod GuardGrammarStates
pub mod StateNames
pub mod TermGrammarStates
pub mod Limited
pub mod Differences
-- Laws and worked values.
pub mod Worked
-- The crates below, which callers name through this one.
pub use Rattle.its_model.specs.model
pub use Rattle.its_model.specs.poly_terms
pub use Rattle.its_model.specs.text_core
pub use Rattle.its_model.specs as its_model
