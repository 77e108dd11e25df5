-- The questions for a place and its sides, and the meaning of their answers.
pub mod Sides
pub mod Places
pub mod LocalAnswers
-- The code's questions and results as plain data.
pub mod Asking
-- The laws of the answers.
pub mod LocalLaws
-- Worked values.
pub mod WorkedLocals
