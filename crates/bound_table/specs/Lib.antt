-- The definitions that public contracts cite.
pub mod Comparison
pub mod Below
pub mod Rewriting
pub mod InForce
pub mod Laws
pub mod RewriteResult
pub mod Worked
pub mod WorkedParts
pub mod WorkedBelow
-- the definitions by subject
pub mod Kinds
pub mod Counting
pub mod Terms
pub mod Folding
pub mod Sorting
pub mod Runs
pub mod Likes
pub mod Powers
pub mod Distribution
pub mod Dominance
-- further definitions that the proofs of loops cite
pub mod Taking
pub mod Joining
-- the crates below, which callers name through this one
pub use Rattle.bound_expr.specs as bound_expr
