-- the entry at a position
pub mod StoredBounds
-- the times and sizes of a table by key
pub mod TablesByKey
-- the premises of nodes
pub mod UseLists
-- sizes that are found are accepted
mod FoundSizes
