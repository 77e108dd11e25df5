mod DueLaws
mod EndLaws
mod FormLaws
pub mod Certifying
mod SpelledRules
mod Validity
pub mod Deciding
-- the lemmas of the crates below, which callers name through this one
pub use Rattle.refined_programs.proofs as refined_programs
pub use Rattle.refinement_rows.proofs as refinement_rows
