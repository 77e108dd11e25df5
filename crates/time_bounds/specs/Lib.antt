-- the total, and what it proves
pub mod Totals
pub mod Laws
-- entries in order, and the numbers of lemmas
pub mod Numbered
-- the answers about a program, and the searches on it
pub mod ProgramRules
pub mod ProgramSizes
pub mod ProgramSearches
pub mod SearchLaws
-- questions about rules, and their results in a round
pub mod Questions
pub mod Needs
pub mod TriedRules
pub mod TimesSaid
pub mod Shutting
pub mod Parts
-- questions about places, and the results for their components in a round
pub mod Locals
pub mod Candidates
pub mod Attempts
pub mod SizeSaid
-- the answers of earlier rounds that remain valid, and the results of rounds
pub mod EarlierAnswers
pub mod OpenDerivations
pub mod RoundsMade
-- the statuses of rules, and the derivations before the first round
pub mod RuleStatuses
pub mod Beginning
-- what the report of an analysis says
pub mod Analysis
pub mod AnalysisLemmas
pub mod CostEntries
-- a program has one analysis
pub mod AnalysisLaws
-- what each reason in a report says of the program
pub mod SaidBounds
pub mod TimeWhys
pub mod SizeWhys
pub mod CostWhys
pub mod Whys
pub mod WorkedReports
pub mod WorkedTimeWhys
pub mod WorkedSizeWhys
pub mod WorkedWhys
-- derived bounds can be printed
pub mod PrintableLaws
-- the crates below, which callers name through this one
pub use Rattle.rank_search.specs.rule_questions
pub use Rattle.rank_search.specs as rank_search
pub use Rattle.bound_fixpoint.specs as bound_fixpoint
