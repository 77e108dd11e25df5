-- the program of a cost, and what local bounds of the cost prove
pub mod CostPrograms
-- nodes on costs that are found are accepted
pub mod CostNodes
-- the lemmas of costs are accepted after those of derivations
pub mod CitedBefore
pub mod CostLemmas
-- a cost has one outcome
pub mod OneCost
-- reasons are true
pub mod CostReasons
-- how the answers of the code represent outcomes
pub mod CostAnswers
pub mod FoundCosts
-- worked values
pub mod WorkedCosts
