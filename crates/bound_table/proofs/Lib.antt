-- Laws of rewriting: each case keeps values, tidiness and numbers; the test `below` is sound; and limits of rewriting.
pub mod Each
pub mod Products
pub mod BelowSound
pub mod BelowLevels
pub mod Loops
pub mod Takes
pub mod BelowCases
pub mod TotalOrder
pub mod Merging
pub mod Folds
pub mod Runs
pub mod Dominances
pub mod Passes
pub mod PartFacts
pub mod CaseValues
pub mod RunValues
pub mod LikeValues
pub mod PowerValues
pub mod Kept
pub mod TidyParts
pub mod TidyPowers
pub mod TidyDistribution
pub mod Splits
pub mod NodeCounts
pub mod DistributionValues
pub mod Values
pub mod TidyCases
pub mod NumberFacts
pub mod TableInForce
pub mod WithinLimits
pub mod WorkedValues
mod WorkedNodes
mod WorkedLower
