-- Laws of the forms of proofs: each form is decided.
pub mod Decided
pub mod Forms
