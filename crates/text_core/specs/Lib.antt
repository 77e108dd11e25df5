-- The definitions that the contracts of this crate, and of crates above it, cite.
pub mod Prefixes
pub mod Names
pub mod Choices
pub mod Bytes
pub mod Tokens
pub mod Readers
pub mod Faults
pub mod Reading
pub mod NameIndex
-- Laws and worked values.
pub mod Laws
pub mod Worked
pub mod WorkedLines
pub mod WorkedReaders
-- The definitions for the internal functions and the proofs.
pub mod Stopping
pub mod Limits
pub mod Inner
pub mod Rows
pub mod Lines
-- The crates below, which callers name through this one.
pub use Rattle.model.specs as model
