-- Laws of lasso files and their texts, and of the verdicts on lassos.
pub mod LassoParts
pub mod LassoText
mod LassosApart
mod WorkedTexts
pub mod Verdicts
pub mod WorkedChecks
pub mod Walks
pub mod Turns
mod Differences
pub mod Endlessness
