-- The definitions that the contracts of this crate, and of crates above it, cite.
pub mod Shapes
pub mod Pieces
pub mod Texts
pub mod Printing
pub mod Lexing
pub mod Lexemes
pub mod ParserStates
pub mod Steps
pub mod Checks
pub mod Reading
pub mod Faults
pub mod Verdicts
pub mod Views
-- laws, and values that were worked out by hand
pub mod WorkedInside
pub mod WorkedLimits
-- further definitions, for internal contracts and proofs
pub mod Writing
pub mod Kinds
pub mod Brackets
pub mod Inside
