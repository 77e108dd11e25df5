-- Lemmas, facts and reasons as plain data.
pub mod Views
-- bounds that are the number 0
pub mod Zeros
-- the crates below, which callers name through this one
pub use Rattle.potential_nodes.specs as potential_nodes
