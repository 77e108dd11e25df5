-- the texts of polynomials and of bounds
pub mod Polynomials
pub mod Texts
-- what the contracts of the functions inside cite
pub mod Passes
-- values that were worked out by hand
pub mod Worked
