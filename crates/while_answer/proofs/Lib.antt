-- The lemmas that texts are decided, on runs and executions, and on worked values.
pub mod Decided
pub mod Executed
pub mod WorkedAnswers
