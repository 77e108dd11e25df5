-- The definitions that the contracts of this crate, and of crates above it, cite.
pub mod Setting
pub mod RankedSets
-- laws and worked values
pub mod Laws
pub mod GapLaws
pub mod Worked
pub mod WorkedGaps
-- the crates below, which callers name through this one
pub use Rattle.guard_prep.specs.model
pub use Rattle.guard_prep.specs.linear_forms
pub use Rattle.cert_rules.specs.rule_forms
pub use Rattle.guard_prep.specs as guard_prep
pub use Rattle.bound_table.specs.bound_expr
pub use Rattle.bound_table.specs as bound_table
pub use Rattle.cert_rules.specs as cert_rules
