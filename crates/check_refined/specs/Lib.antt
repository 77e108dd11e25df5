-- why files are refused, and what accepted ones state
pub mod Refusals
pub mod Files
-- values that were worked out by hand
pub mod Worked
-- the crates below, which callers name through this one
pub use Rattle.refined_files.specs as refined_files
