-- A fraction plus a multiple of another one.
pub mod Sums
-- The merge of two rows.
pub mod Merged
-- Entries that are put into a row.
pub mod Puts
-- Entries by their index.
pub mod Listed
