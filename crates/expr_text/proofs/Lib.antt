-- Laws of the parser of expressions and guards: its steps, ends, completions and limits.
pub mod StepLaws
pub mod GuardLaws
pub mod Ending
pub mod Reading
pub mod GuardReading
pub mod Completing
pub mod WorkedValues
pub mod Stability
pub mod NamesRead
pub mod LimitedFaults
pub mod StateSteps
-- The lemmas of the crates below, which callers name through this one.
pub use Rattle.its_model.proofs.text_core
