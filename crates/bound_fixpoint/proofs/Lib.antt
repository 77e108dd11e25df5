-- case distinctions, and counting
pub mod Cases
pub mod Counts
-- members of lists
pub mod ListMembers
-- keys in lists of keys, and lists of derivations
pub mod Keys
pub mod DerivationLists
-- rules and places by their numbers
pub mod RuleNumbers
-- the premises of lemmas, by the numbers of the lemmas cited
pub mod FactLists
pub mod CitedFacts
pub mod NeededFacts
-- if tables agree on the premises of nodes, nodes compose the same bounds over them and are accepted alike
pub mod SameTimes
pub mod SameSizes
-- the lemma of each node is accepted, and states what the node composes
pub mod NodeLemmas
-- justified derivations give lemmas
pub mod StartFacts
pub mod JustifiedKeys
pub mod DerivationFacts
pub mod JustifiedLemmas
pub mod JustificationLaws
-- missing bounds, and derivations of unknown keys
pub mod MissingBounds
pub mod FreshDerivations
-- accepted nodes, and their premises
pub mod EntryBounds
pub mod AcceptedRanks
pub mod KnownPremises
-- derivations before the first round
pub mod DeadRules
pub mod ZeroTimes
pub mod FirstDerivationsAreJustified
-- derivations of rounds
pub mod TimesAreJustified
pub mod UniformComponents
pub mod SizesAreJustified
-- infeasible rules have times
pub mod EmptyTimes
-- rounds end
pub mod MissingFalls
pub mod RoundsEnd
-- if answers are unique, so are rounds and the last derivations
pub mod OneOrder
pub mod LastIsOne
pub mod FirstIsOne
pub mod RoundIsOne
pub mod DerivationsAreOne
-- sets and shut places exist
pub mod PathTests
pub mod SetsExist
-- missing bounds have reasons, and there are last derivations
pub mod DeadPlaces
pub mod ReasonsExist
pub mod LastExists
-- worked values
pub mod WorkedDerivations
pub mod WorkedSets
pub mod WorkedShut
pub mod WorkedComponents
pub mod WorkedRounds
pub mod WorkedLaterRounds
pub mod WorkedReasons
pub mod WorkedUnreached
pub mod WorkedJustification
pub mod WorkedStated
pub mod WorkedFirst
pub mod WorkedRight
pub mod WorkedAnswers
pub mod WorkedCauses
pub mod WorkedCutOff
pub mod WorkedBeginnings
pub mod WorkedLastRounds
