-- the analysis of a program with the facts at its locations, and its text
pub mod WithFacts
pub mod FactTexts
-- values that were worked out by hand
pub mod WorkedFactTexts
