-- The definitions that the contracts of this crate, and of crates above it, cite.
pub mod Views
pub mod Valid
pub mod Steps
pub mod StepAnswers
pub mod Costs
pub mod CostPrograms
-- Laws and worked values.
pub mod Worked
pub mod ValidLaws
pub mod WorkedPrograms
pub mod WorkedSteps
pub mod WorkedCosts
-- The definitions for the inner functions and the proofs.
pub mod Steppable
-- The crates below, which callers name through this one.
pub use Rattle.poly_terms.specs.model
pub use Rattle.poly_terms.specs.int_laws
pub use Rattle.poly_terms.specs.linear_forms
pub use Rattle.poly_terms.specs as poly_terms
pub use Rattle.text_core.specs as text_core
