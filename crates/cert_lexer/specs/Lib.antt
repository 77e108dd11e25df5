-- The definitions that the contracts of this crate, and of crates above it, cite.
pub mod Grammar
pub mod Lexing
pub mod Found
pub mod Within
pub mod Bounds
-- worked values
pub mod WorkedBounds
-- packed pieces of a bound
pub mod Packing
pub mod Packed
-- further definitions, for internal contracts: outlines, and how levels change
pub mod Outlines
pub mod Levels
pub mod Following
pub mod Representation
-- the crates below, which callers name through this one
pub use Rattle.bound_text.specs as bound_text
