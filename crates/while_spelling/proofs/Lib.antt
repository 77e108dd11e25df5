mod NaturalMoves
mod NaturalReadings
mod PointOrder
mod RuleTerms
pub mod Spelled
