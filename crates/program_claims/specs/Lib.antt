-- Claims about a program, and when a claim is accepted.
pub mod Claims
pub mod Copies
pub mod Evidence
pub mod Verdicts
pub mod Sums
pub mod Heads
pub mod SymbolFacts
pub mod Acceptance
pub mod Laws
-- worked values
pub mod Worked
pub mod WorkedClaims
-- the crates below, which callers name through this one
pub use Rattle.potential_nodes.specs as potential_nodes
pub use Rattle.refinement.specs as refinement
