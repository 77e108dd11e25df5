-- Laws of settings: the setting of a valid program is true of it, so accepted files hold.
pub mod Faithful
pub mod Small
pub mod RankedSets
pub mod Tidying
pub mod Files
pub mod WorkedGaps
-- the lemmas of the crates below, which callers name through this one
pub use Rattle.guard_prep.proofs.model
pub use Rattle.guard_prep.proofs.int_laws
pub use Rattle.cert_rules.proofs.rule_forms
pub use Rattle.cert_rules.proofs as cert_rules
