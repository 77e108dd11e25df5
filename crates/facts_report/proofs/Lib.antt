-- the analysis with facts, which is unique
pub mod StrengthenedReports
pub mod OneDerivation
-- texts of facts, as they are written
pub mod Places
pub mod EachLines
-- values that were worked out by hand
pub mod WorkedFactTexts
