-- Bounds on the new value at a place of a rule: the kinds of forms, when a form is a bound, and what a linear program
-- proves of them.
pub mod Kinds
pub mod Bounds
pub mod Questions
pub mod SoughtParts
pub mod Laws
pub mod Ranking
pub mod RankLaws
pub mod Worked
pub mod WorkedRanks
-- The crates below, which callers name through this one.
pub use Rattle.linear_forms.specs.int_laws
pub use Rattle.linear_forms.specs as linear_forms
