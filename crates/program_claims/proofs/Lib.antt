pub mod Weights
pub mod CopyLaws
mod VerdictLaws
mod SumBounds
mod SymbolLaws
mod PeakBounds
pub mod ClaimLaws
mod AcceptedLaws
mod ListLaws
mod WorkedMeanings
