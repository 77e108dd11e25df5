-- claims as plain data
pub mod Views
-- the crates below, which callers name through this one
pub use Rattle.program_claims.specs as program_claims
