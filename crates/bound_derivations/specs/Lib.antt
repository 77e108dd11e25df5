-- tables by key
pub mod ByKey
-- derivations as plain data
pub mod Views
-- the table as the index of the list
pub mod Books
-- the bounds known initially
pub mod Starting
-- worked values
pub mod Worked
-- the crates below, which callers name through this one
pub use Rattle.bound_fixpoint.specs as bound_fixpoint
pub use Rattle.size_bounds.specs as size_bounds
