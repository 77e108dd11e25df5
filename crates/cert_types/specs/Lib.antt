-- The definitions that the contracts of this crate, and of crates above it, cite.
pub mod Views
pub mod AnswerViews
pub mod Sizes
pub mod FormLookups
pub mod Lookups
pub mod Composing
pub mod Reading
pub mod NumberSets
-- laws and worked values
pub mod Laws
-- the crates below, which callers name through this one
pub use Rattle.cert_program.specs.rule_forms
pub use Rattle.guard_prep.specs as guard_prep
pub use Rattle.bound_expr.specs as bound_expr
pub use Rattle.cert_program.specs.cert_rules
pub use Rattle.cert_program.specs as cert_program
