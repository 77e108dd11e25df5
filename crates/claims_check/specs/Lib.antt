-- evidence, statements and reasons as plain data
pub mod Views
-- the rules below those of the program that a section spells
pub mod Below
-- what is looked up for each claim
pub mod Tables
pub mod Symbols
pub mod Places
pub mod Parts
-- what evidence is
pub mod Laws
-- the crates below, which callers name through this one
pub use Rattle.program_claims.specs as program_claims
pub use Rattle.claim_types.specs as claim_types
pub use Rattle.never_rules.specs as never_rules
pub use Rattle.potential_types.specs as potential_types
