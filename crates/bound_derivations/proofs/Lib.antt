-- lists of entries, and rows of them
pub mod Entries
-- tables in which bounds are written by key
pub mod Writes
-- there are numbers for all derivations
pub mod Room
-- the table stays the index of the list
pub mod IndexStays
-- the lemmas of derivations
pub mod Cites
-- the bounds known initially
pub mod StartIndex
-- times, sizes and numbers by key
pub mod TablesByKey
-- worked values
pub mod WorkedValues
-- rounds make few derivations
pub mod FewDerivations
