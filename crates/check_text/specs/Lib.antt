-- the texts of answers
pub mod Texts
-- the verdict on a file, with its text
pub mod Verdicts
-- values that were worked out by hand
pub mod WorkedTexts
-- what the contracts of the functions inside cite
pub mod StatedErrors
