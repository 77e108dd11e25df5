pub mod PartAnswers
pub mod FileAnswers
mod Exclusion
mod WorkedFiles
