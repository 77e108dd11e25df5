-- what the contracts of this crate, and of those above it, cite
pub mod Texts
-- values that were worked out by hand
pub mod Worked
-- the crates below, which callers name through this one
pub use Rattle.cert_text.specs as cert_text
pub use Rattle.refined_types.specs as refined_types
