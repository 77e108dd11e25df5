pub mod LookupLaws
pub mod CheckLaws
pub mod TermLaws
pub mod CertificateLaws
pub mod FactLaws
pub mod CostLaws
pub mod PlainFactLaws
pub mod StepLaws
pub mod TableLaws
pub mod GainLaws
pub mod FallLaws
pub mod PeakLaws
pub mod BoundLaws
pub mod CombinationLaws
pub mod PlainPeakLaws
pub mod PhaseNodeLaws
pub mod AcceptanceLaws
pub mod FactMeaningLaws
pub mod WorkedLoop
-- the lemmas of the crates below, which callers name through this one
pub use Rattle.potentials.proofs.model
pub use Rattle.potentials.proofs as potentials
