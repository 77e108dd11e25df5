-- outcomes of reading, of one text and of a file part by part
pub mod Kinds
pub mod Outcomes
pub mod Parts
pub mod Files
-- what results say
pub mod Results
-- laws, and values that were worked out by hand
pub mod Laws
pub mod Worked
-- the crates below, which callers name through this one
pub use Rattle.proof_parts.specs as proof_parts
pub use Rattle.section_text.specs as section_text
pub use Rattle.potential_text.specs as potential_text
pub use Rattle.cert_text.specs as cert_text
pub use Rattle.refined_types.specs as refined_types
