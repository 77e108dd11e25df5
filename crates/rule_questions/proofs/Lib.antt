-- Laws of the questions about rules, and of answers to whether rows have a point.
pub mod Lists
pub mod Pairs
pub mod Sums
pub mod Filters
pub mod GroupLines
pub mod GoalForms
pub mod NewValues
pub mod HitsLimit
pub mod EmptyLaws
pub mod EmptyProblems
pub mod Exact
pub mod OneEmptyAnswer
-- The lemmas of the crates below, which callers name through this one.
pub use Rattle.poly_terms.proofs.model
pub use Rattle.poly_terms.proofs.int_laws
pub use Rattle.cert_types.proofs.cert_rules
