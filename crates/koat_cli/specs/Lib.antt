-- what the contracts of the program cite: calls, texts, what each command answers, the plans of requests, how calls
-- end, and what their statuses mean
pub mod Calls
pub mod Report
pub mod Statements
pub mod Figures
pub mod ReplayTexts
pub mod ProgramTexts
pub mod ProofTexts
pub mod RunTexts
pub mod LassoTexts
pub mod LassoLaws
pub mod LpTexts
pub mod WhileTexts
pub mod WithinBounds
pub mod Found
pub mod FittingReports
pub mod Commands
pub mod RequestPlans
pub mod OneAnswer
pub mod Answers
pub mod Statuses
pub mod Ends
pub mod WroteReport
pub mod WroteTotal
pub mod Means
pub mod Processes
pub mod Exclusion
pub mod CallsAnswered
pub mod ProvenChecks
pub mod AnalysisTexts
-- values that were worked out by hand
pub mod WorkedEnds
pub mod WorkedAnswers
pub mod WorkedReplayTexts
pub mod WorkedMissingFiles
pub mod WorkedMeanings
pub mod WorkedExecutions
-- what the contracts of the functions inside cite
pub mod Steps
pub mod WhileTasks
