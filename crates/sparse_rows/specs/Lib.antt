-- The specs that contracts of this crate and of other crates cite.
pub mod Entries
pub mod Rows
pub mod Multiples
-- The definitions for the internal functions and the proofs.
pub mod Zeros
