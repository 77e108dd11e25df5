-- The stored facts of earlier lemmas.
pub mod Statements
-- the context in which nodes are checked
pub mod CheckContexts
pub mod SuitedRows
pub mod CostRows
-- the answers on nodes
pub mod NodeAnswers
-- look-up of stated bounds by rule and place, and which of them the premises of a node have to state
pub mod Lookups
pub mod Needed
-- facts of several premises, joined
pub mod Joining
-- forms, column by column
pub mod Columns
