-- subjects of a report's lines, and the lines
pub mod Subjects
pub mod Lines
-- the bounds that statements give
pub mod Statements
-- the sum of what the rules spend
pub mod Spending
-- which of two bounds is printed
pub mod Choices
-- what a report says of a program, beside what the analysis with facts found
pub mod Reports
-- its text
pub mod Texts
-- values that were worked out by hand
pub mod Worked
-- the crates below, which callers name through this one
pub use Rattle.outcome.specs as outcome
pub use Rattle.program_claims.specs as program_claims
pub use Rattle.claims_check.specs as claims_check
pub use Rattle.signed_values.specs as signed_values
