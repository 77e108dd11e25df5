-- Laws of lists, of sums and multiples of forms, and of questions.
pub mod ListLaws
pub mod CombinationLaws
pub mod SolutionLaws
pub mod ColumnLaws
pub mod ElementLaws
pub mod RefutationLaws
pub mod WeightLaws
pub mod WorkedQuestions
pub mod RuleShapes
pub mod ProgramLaws
pub mod FormLaws
pub mod CertificateLaws
pub mod CertificateValues
pub mod CauseLaws
-- The lemmas of the crates below, which callers name through this one.
pub use Rattle.int_laws.proofs as int_laws
