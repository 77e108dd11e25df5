-- The definitions that the contracts of this crate, and of crates above it, cite.
pub mod Pieces
pub mod Lexing
pub mod Written
pub mod Numbering
pub mod GrammarStates
pub mod Steps
pub mod StateNames
pub mod Kinds
pub mod StateFaults
pub mod Grammar
pub mod Spelling
pub mod Answers
pub mod Verdicts
-- Laws and worked values.
pub mod Worked
pub mod WorkedLimits
-- The crates below, which callers name through this one.
pub use Rattle.expr_text.specs as expr_text
