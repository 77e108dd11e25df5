-- The specs that contracts of this crate and of other crates cite.
pub mod Lassos
pub mod Texts
pub mod Spelled
pub mod Views
pub mod Worked
pub mod Checks
pub mod CheckAnswers
pub mod CheckLaws
pub mod WorkedChecks
-- The crates below, which callers name through this one.
pub use Rattle.run_replay.specs as run_replay
pub use Rattle.text_grammar.specs as text_grammar
pub use Rattle.its_model.specs as its_model
