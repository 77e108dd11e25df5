-- The rows over which costs are bounded.
pub mod CostRules
-- The parts of composed bounds on costs.
pub mod ComposedCosts
