-- The specs that contracts of this crate and of other crates cite.
pub mod Texts
pub mod Answers
pub mod Worked
-- The crates below, which callers name through this one.
pub use Rattle.lp_text.specs as lp_text
pub use Rattle.bland_end.specs as bland_end
