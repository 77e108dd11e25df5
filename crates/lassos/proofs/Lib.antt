-- Laws of lassos, and proofs of their worked values.
pub mod Turning
pub mod Moving
pub mod Laws
mod WorkedLassos
-- the lemmas of the crate below, which callers name through this one
pub use Rattle.model.proofs as model
