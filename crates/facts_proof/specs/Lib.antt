-- what a file states, and what it proves
pub mod Statements
pub mod Proofs
-- intermediate results
pub mod Entries
pub mod Parts
-- values that were worked out by hand
pub mod Worked
-- the crates below, which callers name through this one
pub use Rattle.check_refined.specs as check_refined
pub use Rattle.facts_report.specs as facts_report
