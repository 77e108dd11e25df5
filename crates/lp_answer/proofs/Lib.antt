-- A linear program has one answer.
pub mod AnswersAgree
pub mod OneAnswer
pub mod ValueLines
pub mod WorkedTexts
