-- The specs that contracts of this crate and of other crates cite.
pub mod Lps
pub mod Texts
pub mod Spelled
pub mod Decided
pub mod Problems
pub mod Views
pub mod Worked
-- The crates below, which callers name through this one.
pub use Rattle.text_grammar.specs.text_core
pub use Rattle.text_grammar.specs as text_grammar
pub use Rattle.lp_builder.specs as lp_builder
