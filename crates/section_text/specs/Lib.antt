-- The definitions that the contracts of this crate, and of crates above it, cite.
pub mod Lexing
pub mod Within
pub mod Grammar
pub mod Drafts
pub mod Faults
pub mod Reading
pub mod CopyNames
pub mod Views
pub mod Refusals
pub mod Results
-- worked values
pub mod Worked
