-- Laws of the sections that the searches make.
mod Weaker
-- the lemmas of the crate below, which callers name through this one
pub use Rattle.refinement.proofs as refinement
