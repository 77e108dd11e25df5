-- subjects of statements
pub mod Subjects
-- what is found for a program
pub mod Found
-- values that were worked out by hand
pub mod Worked
-- the crates below, which callers name through this one
pub use Rattle.check_refined.specs as check_refined
pub use Rattle.refined_types.specs as refined_types
