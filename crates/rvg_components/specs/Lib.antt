-- The definitions that the contracts of this crate, and of crates above it, cite.
pub mod Flows
pub mod Listing
-- Laws and worked values.
pub mod WorkedFlows
-- The definitions for the internal functions and the proofs.
pub mod Reading
pub mod Numbering
pub mod Edges
pub mod Inside
pub mod Fitting
pub mod FlowGraphs
