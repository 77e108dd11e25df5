-- Lists that are split at a position.
pub mod Cuts
-- the prepared rows of rules
pub mod Rows
pub mod SuitedRows
-- the prepared rows of cost rules, by rule
pub mod PreparedCosts
-- facts of places, one after another
pub mod PlaceFacts
-- stored facts, by position
pub mod KeptFacts
-- joined facts and their tables
pub mod JoinedFacts
pub mod JoinedTables
-- bounds by key
pub mod Keys
-- bounds that are needed
pub mod NeededBounds
-- forms, column by column
pub mod FormColumns
