-- Laws of valid programs, of steps in 128 bits and of their costs, and worked values.
pub mod WorkedValues
pub mod ListLaws
pub mod ValidLaws
mod StepLaws
mod CostFaults
pub mod CostTerms
pub mod CostSteps
pub mod CostPrograms
mod RuleLaws
mod WorkedPrograms
mod WorkedSteps
mod WorkedCosts
-- The lemmas of the crates below, which callers name through this one.
pub use Rattle.poly_terms.proofs.linear_forms
pub use Rattle.poly_terms.proofs as poly_terms
pub use Rattle.text_core.proofs as text_core
