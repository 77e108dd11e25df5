-- The parts of nodes, and their checks.
pub mod Lookup
pub mod PolynomialTerms
pub mod Certificates
pub mod Ground
pub mod Facts
pub mod Costs
pub mod PlainFacts
pub mod Checks
pub mod Tables
pub mod Falls
pub mod Peaks
pub mod Combinations
pub mod PlainPeaks
pub mod PhaseNodes
pub mod SignedNodes
pub mod Limits
pub mod Acceptance
pub mod FactMeanings
pub mod Laws
-- worked values
pub mod Worked
pub mod WorkedCosts
-- the crates below, which callers name through this one
pub use Rattle.potentials.specs.model
pub use Rattle.potentials.specs as potentials
pub use Rattle.signed_bounds.specs as signed_bounds
