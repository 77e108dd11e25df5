-- The expression of each kind of bound, and the rest of a list of bounds.
pub use Rattle.bound_expr.proofs.Views.{seen}
