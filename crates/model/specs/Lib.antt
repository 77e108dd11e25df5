-- The definitions of programs, runs, bounds and facts, which the contracts of all other crates cite.
pub mod Terms
pub mod Polynomials
pub mod Programs
pub mod Runs
pub mod Bounds
pub mod Spending
pub mod Facts
pub mod Costs
pub mod Paths
pub mod Entries
pub mod Limits
-- Laws of these, and worked values.
pub mod RunLaws
pub mod Laws
pub mod Worked
pub mod WorkedRuns
pub mod WorkedFacts
pub mod WorkedCosts
pub mod WorkedTotals
pub mod PathValues
