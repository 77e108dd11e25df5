-- The definitions that the contracts of this crate, and of crates above it, cite.
pub mod Views
pub mod Variables
pub mod Operators
pub mod StateSteps
pub mod Faults
pub mod Standing
pub mod GuardRepresentation
pub mod GuardParts
-- Laws and worked values.
pub mod WorkedSigns
pub mod Worked
