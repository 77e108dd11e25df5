-- Laws of looked-up facts, of sets of numbers, and of composed sizes.
pub mod Numbers
pub mod Parts
pub mod Lookups
pub mod Rules
pub mod FormLookups
pub mod NumberSets
pub mod Spreads
pub mod ReadPlaces
pub mod NonlinearUpdates
-- the lemmas of the crates below, which callers name through this one
pub use Rattle.cert_program.proofs.rule_forms
pub use Rattle.guard_prep.proofs as guard_prep
pub use Rattle.cert_program.proofs.cert_rules
pub use Rattle.cert_program.proofs as cert_program
