-- Laws of texts of linear programs, and of their problems.
pub mod LpParts
pub mod LpTexts
pub mod LpDecided
pub mod LpProblems
pub mod LpEntries
pub mod LpReading
pub mod WorkedTexts
-- the lemmas of the crate below, which callers name through this one
pub use Rattle.lp_builder.proofs as lp_builder
