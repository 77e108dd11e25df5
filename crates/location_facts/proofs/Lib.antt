-- Facts as rows, and what their proofs show.
pub mod RowValues
pub mod Inductive
pub mod ProvedFacts
-- The sequence of lists of facts.
pub mod Next
-- Programs that are strengthened by facts.
pub mod Strongest
pub mod Strengthened
pub mod StrongValid
pub mod StrongLaws
pub mod AtomLists
-- The candidate facts, and the meaning of answers about them.
pub mod CandidateList
pub mod ProgramAnswers
-- The first fault of facts and their proofs.
pub mod Counting
pub mod FactSizes
pub mod RowForms
pub mod CombinedLists
pub mod FaultLists
pub mod FaultSteps
pub mod ShownRules
-- Whether a goal follows from rows.
pub mod GoalAnswers
pub mod GoalProblems
-- The candidate facts as loops build them, and lists of facts round by round.
pub mod CandidateLoops
pub mod KeptLists
-- Facts that rules imply under a list.
pub mod ImpliedLaws
pub mod Writable
-- The next list, one fact and one rule after the other.
pub mod RoundSteps
pub mod UnderRules
pub mod NextFacts
pub mod ProofSteps
pub mod FirstFaults
-- Rules that are due, and tables by symbol.
pub mod DueRules
pub mod SymbolTables
-- Points and rays that refute facts, and points of rules under a list.
pub mod ElementRules
pub mod PointRules
-- Worked values.
pub mod WorkedFacts
pub mod WorkedFaults
pub mod WorkedKept
pub mod WorkedPivots
pub mod WorkedSomeKept
