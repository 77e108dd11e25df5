-- Laws of the search for ranking functions: its problem, its solutions as nodes, its duals as gaps.
pub mod EmptinessAnswers
pub mod RankSets
pub mod RankExact
pub mod DualGaps
pub mod Numbers
pub mod ShownParts
pub mod Accepted
pub mod NodeLaws
pub mod Marking
pub mod OpenPlaces
pub mod Counts
pub mod RankProblems
pub mod Writing
pub mod FunctionReading
pub mod Groups
pub mod RankAnswers
pub mod Uniqueness
pub mod ShutSets
pub mod BlockGoals
pub mod Unconcerned
-- The lemmas of the crates below, which callers name through this one.
pub use Rattle.rule_questions.proofs as rule_questions
