-- The specs that contracts of this crate and of other crates cite.
pub mod Runs
pub mod Texts
pub mod Spelled
pub mod Views
pub mod Worked
pub mod Replays
pub mod ReplayAnswers
pub mod ReplayLaws
pub mod WorkedReplays
-- The crates below, which callers name through this one.
pub use Rattle.text_grammar.specs.text_core
pub use Rattle.text_grammar.specs as text_grammar
pub use Rattle.its_model.specs as its_model
