-- The definitions that the contracts of this crate, and of crates above it, cite.
pub mod Acyclic
pub mod Cycles
pub mod Groups
pub mod Components
pub mod Graphs
-- Laws and worked values.
pub mod WorkedComponents
pub mod WorkedParts
-- The definitions for the inner functions and the proofs.
pub mod Floods
pub mod Classes
pub mod Naming
pub mod Walks
pub mod Orders
pub mod Members
pub mod Links
pub mod Numbers
