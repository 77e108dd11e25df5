-- files, and when they are accepted
pub mod Files
-- laws, and values that were worked out by hand
pub mod Laws
pub mod Worked
-- the crates below, which callers name through this one
pub use Rattle.section_checks.specs as section_checks
pub use Rattle.cert_program.specs as cert_program
pub use Rattle.potential_ground.specs as potential_ground
pub use Rattle.program_claims.specs as program_claims
