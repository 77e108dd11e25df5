-- Laws of forms that bound a new value and of functions that rank a rule: solutions, exclusion, weights, worked values.
pub mod Forms
pub mod Combined
pub mod GoalForms
pub mod Shapes
pub mod Solutions
pub mod Exclusion
pub mod Rays
pub mod Weights
pub mod Worked
pub mod Totals
pub mod Losses
pub mod RankGoals
pub mod RankSolutions
pub mod RankValues
pub mod RankExclusion
pub mod RankWeights
pub mod LeastRanks
pub mod WorkedRanks
pub mod RankFits
-- The lemmas of the crates below, which callers name through this one.
pub use Rattle.linear_forms.proofs.int_laws
pub use Rattle.linear_forms.proofs as linear_forms
