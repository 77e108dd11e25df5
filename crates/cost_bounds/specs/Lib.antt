-- the bound on a cost, or why there is none
pub mod CostOutcomes
-- the lemmas of costs, and the answers of the code
pub mod CostLemmas
pub mod CostAnswers
-- what each reason says of the program
pub mod CostReasons
-- what the answers prove
pub mod Laws
-- worked values
pub mod WorkedCosts
