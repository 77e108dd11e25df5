-- the rows and the new values of rules as expressions
pub mod SquareRows
pub mod RowTerms
-- worked values
pub mod Worked
pub mod WorkedParts
pub mod WorkedCounters
pub mod WorkedLexicographic
pub mod WorkedSides
pub mod WorkedPhases
pub mod WorkedTriangle
pub mod WorkedSquares
pub mod Whole
-- the crates below, which callers name through this one
pub use Rattle.guard_prep.specs as guard_prep
pub use Rattle.potential_nodes.specs as potential_nodes
