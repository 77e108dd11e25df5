-- The definitions that the contracts of this crate, and of crates above it, cite.
pub mod Layout
pub mod Expressions
pub mod Texts
pub mod Spellable
pub mod Answers
pub mod Generated
pub mod Printing
-- Laws and worked values.
pub mod Worked
