-- Side bounds over the prepared rows of a rule.
pub mod SideBounds
-- the facts of nodes on sizes
pub mod SizeAnswers
-- nodes on costs
pub mod Costs
pub mod CostAnswers
