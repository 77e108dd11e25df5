-- laws of the top call: that a program has one answer, how texts are read and refused, that plans are lawful, how calls
-- end, and what their statuses mean; worked values
pub mod Counts
pub mod Determined
pub mod Statements
pub mod GrammarTexts
pub mod ReportTables
pub mod BoundedReports
pub mod OneText
pub mod FewSymbols
pub mod ReadPrograms
pub mod ProgramAnswers
pub mod RunAnswers
pub mod FirstForms
pub mod ProofAnswers
pub mod LpAnswers
pub mod WhileAnswers
pub mod ProofFiles
pub mod Certified
pub mod GeneratedTexts
pub mod WithinBounds
pub mod AnsweredTallies
pub mod LassoAnswers
pub mod LassoLaws
pub mod LawfulPlans
pub mod OneRequest
pub mod Statuses
pub mod EndsMean
pub mod Endings
pub mod Preparing
pub mod CallsAnswered
pub mod ProvenChecks
pub mod WorkedEnds
pub mod WorkedAnswers
pub mod WorkedReplayTexts
pub mod WorkedMissingFiles
pub mod WorkedMeanings
pub mod WorkedExecutions
pub mod LinesBeside
mod FewNodes
mod FittingReports
pub mod AnalysisTexts
