-- what the contracts of this crate, and of those above it, cite
pub mod Lexing
pub mod Within
pub mod Grammar
pub mod Numbers
pub mod Polynomials
pub mod Certificates
pub mod Bounds
pub mod Items
pub mod Drafts
pub mod Faults
pub mod Reading
pub mod SymbolNames
pub mod Views
pub mod Refusals
pub mod Results
-- values that were worked out by hand
pub mod Worked
