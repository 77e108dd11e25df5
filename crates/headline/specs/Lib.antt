-- what the laws cite
pub mod Words
pub mod Premises
pub mod Reasons
pub mod Written
pub mod Headline
pub mod AnyText
pub mod AtSymbols
pub mod Checked
pub mod WithFacts
pub mod Best
pub mod Replayed
-- values that were worked out by hand
pub mod Worked
pub mod WorkedTexts
pub mod WorkedBest
pub mod WorkedCalls
