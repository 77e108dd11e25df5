-- the texts of answers
pub mod Terms
pub mod Symbols
pub mod Statements
pub mod Sections
pub mod Lemmas
-- values that were worked out by hand
pub mod Worked
