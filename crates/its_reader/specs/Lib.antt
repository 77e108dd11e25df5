-- The definitions that the contracts of this crate, and of crates above it, cite.
pub mod Views
pub mod Tests
pub mod Faults
pub mod Standing
pub mod StateSteps
pub mod FaultTests
pub mod TokenSteps
pub mod TailSteps
pub mod PartEnds
pub mod Finishing
-- The definitions for the internal functions and the proofs.
pub mod Places
pub mod Reading
-- The crates below, which callers name through this one.
pub use Rattle.its_text.specs as its_text
