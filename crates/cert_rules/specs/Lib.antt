-- The definitions that the contracts of this crate, and of crates above it, cite.
pub mod Nodes
pub mod Gaps
pub mod Numbers
pub mod Graph
pub mod Known
pub mod Setting
pub mod Composed
pub mod ComposedSizes
pub mod Limits
pub mod AcceptsPlain
pub mod AcceptsRank
pub mod AcceptsSizes
pub mod AcceptsCosts
pub mod Acceptance
pub mod Reasons
pub mod Checks
pub mod GapChecks
pub mod Tests
pub mod NumberTests
pub mod PlainTests
pub mod ReachTests
pub mod RankTests
pub mod SizeTests
pub mod CostTests
pub mod GapTests
pub mod Deciding
pub mod Numbering
pub mod Refusals
pub mod Feeding
-- laws and worked values
pub mod ReasonLaws
pub mod GapLaws
pub mod RefusalLaws
pub mod Laws
pub mod Printable
pub mod WorkedSettings
pub mod Worked
pub mod WorkedSizes
pub mod WorkedReasons
pub mod WorkedCosts
pub mod WorkedGaps
pub mod WorkedGapSets
pub mod WorkedGapShapes
pub mod WorkedRefusals
pub mod WorkedPrintable
-- further definitions, for the proofs
pub mod Combined
-- the crates below, which callers name through this one
pub use Rattle.rule_forms.specs as rule_forms
