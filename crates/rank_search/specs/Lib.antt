-- The definitions that the contracts of this crate, and of crates above it, cite.
pub mod RankAnswers
pub mod Goals
pub mod OneAnswer
-- Laws and worked values.
pub mod RankLaws
-- The definitions for the internal functions and the proofs.
pub mod Coefficients
pub mod Blocks
pub mod ShutPlaces
pub mod Marks
pub mod Reading
-- The crates below, which callers name through this one.
pub use Rattle.rule_questions.specs as rule_questions
