-- flags for numbers
pub mod Marks
-- the shape of ranking nodes
pub mod RankShapes
-- the decrease by a rule
pub mod Goals
