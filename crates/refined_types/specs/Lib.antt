-- files as plain data
pub mod Views
-- the crates below, which callers name through this one
pub use Rattle.claim_types.specs as claim_types
pub use Rattle.refined_files.specs as refined_files
