-- The specs that contracts of this crate and of other crates cite.
pub mod Facts
pub mod Candidates
pub mod Rows
pub mod Certificates
pub mod Faults
pub mod Strengthening
pub mod Kept
-- Laws and worked values.
pub mod Laws
pub mod Worked
pub mod WorkedFaults
pub mod WorkedKept
-- The definitions for the internal functions and the proofs.
pub mod CombinedRows
pub mod Replies
pub mod Implied
pub mod Elements
pub mod Due
pub mod Pointed
pub mod Tables
