pub mod Choices
pub mod Roots
pub mod PolynomialTerms
pub mod ProductValues
pub mod FitLaws
pub mod CoverLaws
pub mod WithinLaws
pub mod ReflexiveLaws
pub mod InputValues
pub mod Squares
mod WorkedValues
pub mod Views
pub mod PartLoops
