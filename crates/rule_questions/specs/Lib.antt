-- The definitions that the contracts of this crate, and of crates above it, cite.
pub mod ProgramQuestions
pub mod Programs
pub mod EmptyAnswers
pub mod RuleAnswers
pub mod OneEmptyAnswer
pub mod SmallForms
-- The definitions for the internal functions and the proofs.
pub mod AscendingGoals
pub mod GroupLines
-- The crates below, which callers name through this one.
pub use Rattle.poly_terms.specs.model
pub use Rattle.poly_terms.specs.int_laws
pub use Rattle.poly_terms.specs.linear_forms
pub use Rattle.cert_types.specs.rule_forms
pub use Rattle.cert_types.specs.bound_expr
pub use Rattle.cert_types.specs.cert_rules
pub use Rattle.cert_types.specs as cert_types
