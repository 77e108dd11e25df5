pub mod CertifiedLaws
mod WorkedGuards
mod CertifiedByHand
-- the lemmas of the crates below, which callers name through this one
pub use Rattle.refinement.proofs as refinement
pub use Rattle.guard_prep.proofs as guard_prep
