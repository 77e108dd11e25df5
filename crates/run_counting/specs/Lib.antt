-- The counting lemma: levels that pay for the steps by a rule bound how often it occurs.
pub mod Paying
-- Worked values.
pub mod Worked
-- The crates below, which callers name through this one.
pub use Rattle.model.specs as model
