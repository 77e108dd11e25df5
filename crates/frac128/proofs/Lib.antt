-- Laws of lowest terms and their uniqueness, of the results of the calls and their shortcuts, and of rounding.
pub mod LowestTerms
pub mod Rounding
pub mod Outcomes
pub mod ShortWays
pub mod Uniqueness
pub mod Identity
