-- Laws of runs, paths, entries and costs, and proofs of the worked values.
pub mod Cases
pub mod PathLaws
pub mod RunLaws
pub mod WorkedValues
pub mod WorkedRuns
pub mod CountdownRuns
pub mod WorkedFacts
pub mod CostLaws
pub mod SpendingSums
pub mod WorkedCosts
pub mod WorkedTotals
pub mod StepLaws
pub mod PathValues
pub mod Membership
pub mod Entries
