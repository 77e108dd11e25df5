-- The specs that contracts of this crate and of other crates cite.
pub mod Forms
pub mod Combinations
pub mod Points
pub mod Certificates
pub mod LinearProgram
pub mod Questions
pub mod RuleQuestions
pub mod Losses
pub mod Causes
pub mod Limits
pub mod Sizes
-- Laws and worked values.
pub mod RuleQuestionLaws
pub mod QuestionLaws
pub mod QuestionValues
pub mod ProgramLaws
pub mod CertificateLaws
-- The crates below, which callers name through this one.
pub use Rattle.int_laws.specs as int_laws
