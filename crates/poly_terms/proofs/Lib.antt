-- Laws of values, of polynomials and their keys, of expansion and its faults, and of rows.
pub mod Values
pub mod OrderLaws
pub mod WideLaws
mod LoopLaws
mod PositionLaws
mod SumLaws
mod MergeLaws
mod ScaleLaws
mod EntryLaws
pub mod FaultLaws
mod CollectLaws
pub mod RowLaws
pub mod AnswerLaws
mod Weights
pub mod VariableLaws
pub mod TotalLaws
pub mod FormLaws
mod FactorLaws
mod KeyFormLaws
mod KeyErrorLaws
mod FormStepLaws
mod KeyLaws
mod UnpackingLaws
mod DistinctLaws
mod WorkedForms
-- The lemmas of the crates below, which callers name through this one.
pub use Rattle.model.proofs as model
pub use Rattle.linear_forms.proofs.int_laws
pub use Rattle.linear_forms.proofs as linear_forms
