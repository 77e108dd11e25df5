mod StageTests
pub mod Deciding
mod WorkedSections
-- the lemmas of the crates below, which callers name through this one
pub use Rattle.section_checks.proofs as section_checks
