-- the text of a report
pub mod Pieces
pub mod Reasons
pub mod Reports
pub mod States
-- reports that are determined by their texts, and small texts worked out by hand
pub mod Printable
pub mod OneReport
pub mod WorkedTexts
-- what the contracts of the functions inside cite
pub mod Conditions
-- the crates below, which callers name through this one
pub use Rattle.bound_text.specs as bound_text
