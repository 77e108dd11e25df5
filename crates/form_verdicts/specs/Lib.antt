-- the texts of refusals of files of the third form
pub mod Texts
-- verdicts with their texts
pub mod Verdicts
-- laws, and values that were worked out by hand
pub mod Laws
pub mod Worked
