pub mod PositiveParts
pub mod SumLaws
pub mod LevelLaws
pub mod NodeLaws
pub mod PhaseLaws
pub mod RankLaws
pub mod WorkedPotentials
-- the lemmas of the crates below, which callers name through this one
pub use Rattle.run_counting.proofs.model
pub use Rattle.run_counting.proofs as run_counting
pub use Rattle.int_laws.proofs as int_laws
