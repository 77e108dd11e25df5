-- Rules whose cost is written.
pub mod WrittenCosts
-- The prepared rows of cost rules.
pub mod CostRules
-- The parts of composed bounds on costs.
pub mod ComposedCosts
