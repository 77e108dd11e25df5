pub mod AnnotatedLaws
pub mod EndLaws
mod RuleNumbers
-- the lemmas of the crates below, which callers name through this one
pub use Rattle.refinement.proofs as refinement
pub use Rattle.its_model.proofs as its_model
