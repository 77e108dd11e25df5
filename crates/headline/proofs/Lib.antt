-- Laws of the words, reasons and statuses of answers.
pub mod Words
pub mod Reasons
pub mod Statuses
pub mod GivenPrograms
pub mod AtSymbols
pub mod Headline
pub mod Checked
pub mod WithFacts
pub mod Best
pub mod Replayed
pub mod Worked
pub mod WorkedTexts
pub mod WorkedBest
pub mod WorkedCalls
