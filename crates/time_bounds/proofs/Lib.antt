-- what a run costs is at most the sum of what each rule spends
pub mod KnownTimes
pub mod TotalSteps
-- the set of a rule, and its shut places
pub mod SetLaws
pub mod ShutBySymbol
pub mod PartSets
pub mod ShutByPlace
-- rules, their ends and their statuses
pub mod RuleNumbers
pub mod RuleSymbols
pub mod RuleStatusLaws
pub mod RuleStatusLists
pub mod RowLaws
pub mod UntimedRules
-- the searches of a program are right
pub mod RightSearches
pub mod ResultVariableLists
pub mod LiveResultVariables
pub mod RightComponents
pub mod RightSizings
-- a program has one analysis
pub mod OneSizings
pub mod OneSizes
pub mod OneSearches
pub mod OneProgram
pub mod OneAnalysis
pub mod OneOutcome
-- a table by key
pub mod TablesOver
-- the derivations before the first round
pub mod StartLists
pub mod FirstOrder
pub mod FirstKeys
-- derivations that are taken one after the other
pub mod OpenDerivations
pub mod TriedDerivations
pub mod NeedLists
-- lists of rules and answers with one more element
pub mod NumberedLists
pub mod NamedGaps
pub mod AnswerLaws
pub mod AnsweredQuestions
pub mod TimeRounds
-- elements at places
pub mod PlaceAnswers
pub mod LocalLists
pub mod LiveLocals
pub mod LoneComponents
pub mod CandidateLaws
pub mod SideBoundLists
pub mod ComponentSideBounds
pub mod PlacedLaws
-- the answers for components
pub mod MemberLoops
pub mod PolynomialUpdates
pub mod CandidateComponents
pub mod ComponentTries
-- answers of earlier rounds that remain valid
pub mod GrownBounds
pub mod GrownChecks
pub mod OpenPlaces
pub mod TrueAnswers
pub mod SizeRounds
pub mod MadeRounds
-- the entries of sizes
pub mod SizeReasons
pub mod SaidSizes
pub mod SaidRows
-- entries carry the numbers of their lemmas
pub mod TimeNumbers
pub mod SizeNumbers
-- the entries of costs, and the numbers of their lemmas
pub mod CostEntries
pub mod CostingAnswers
pub mod CostNumbers
-- the outcome that the code makes is the program's analysis
pub mod ReportEntries
pub mod AnalysisOfDerivations
pub mod WholeAnalysis
pub mod OutcomeLemmas
-- each reason in a report is true of the program
pub mod DerivationKeys
pub mod SaidKnown
pub mod FailingChecks
pub mod NeededMembers
pub mod PlacesWithoutSideBound
pub mod PassedForms
pub mod TrueTimeWhys
pub mod FirstLacks
pub mod TrueSizeWhys
pub mod TrueWhys
pub mod LargeNodes
pub mod StayingRule
pub mod FreeValue
pub mod SoughtSets
pub mod WorkedTimeWhys
pub mod WorkedSizeWhys
pub mod WorkedWhys
-- derived bounds can be printed
pub mod Printables
pub mod PrintableOutcomes
-- the lemmas of the crates below, which callers name through this one
pub use Rattle.rank_search.proofs.rule_questions
pub use Rattle.rank_search.proofs as rank_search
pub use Rattle.local_size.proofs as local_size
