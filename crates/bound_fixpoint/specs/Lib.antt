-- Bounds by key, derivations, their premises, when they are justified, and which facts state bounds.
pub mod Keys
pub mod Derivations
pub mod Needs
pub mod Justification
pub mod Stated
-- the sets and the shut places of queries, the answers of the searches, and their results
pub mod Sets
pub mod Searches
pub mod Answers
-- the derivations before the first round, and those of each round
pub mod Components
pub mod Beginning
pub mod Rounds
-- when members loop, and when the answers of searches are right
pub mod Loops
pub mod Right
-- laws
pub mod Laws
-- worked values
pub mod WorkedDerivations
pub mod WorkedSets
pub mod WorkedJustification
pub mod WorkedStated
pub mod WorkedRounds
pub mod WorkedFirst
pub mod WorkedAnswers
pub mod WorkedCauses
pub mod WorkedBeginnings
pub mod WorkedLastRounds
