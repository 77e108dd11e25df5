-- The shapes of bounds that texts spell.
use Rattle.std.specs.Prelude.{◌≤◌, Bool, true, false, ⊤}
use Rattle.text_core.specs.model.Bounds.{Bound, Constant, Input, SumOf, ProductOf, MaximumOf, PowerOf, Parts, NoParts}
use Rattle.text_core.specs.model.Bounds.{Part}
pub use Rattle.bound_expr.specs.Kinds.{is_sum, is_maximum, is_input as is_variable}
pub use Rattle.bound_expr.specs.Views.{with_part}
use Rattle.bound_expr.specs.Tidy.{part_count, IsNoSum, IsNoProduct, IsNoMaximum, EachPart}

-- whether it is a constant or a variable
abbrev pub is_leaf : Bound → Bool
is_leaf (Constant c) = true
is_leaf (Input i) = true
is_leaf _ = false

-- whether there are no parts
abbrev pub is_empty : Parts → Bool
is_empty NoParts = true
is_empty (Part b bs) = false

-- a bound that a text spells: tidy, except that its constants may be any
abbrev mutual
  pub IsShaped : Bound → Type 0
  IsShaped (Constant c) = ⊤
  IsShaped (Input i) = ⊤
  IsShaped (SumOf bs) = (2 ≤ part_count bs) × EachPart IsNoSum bs × AreShaped bs
  IsShaped (ProductOf bs) = (2 ≤ part_count bs) × EachPart IsNoProduct bs × AreShaped bs
  IsShaped (MaximumOf bs) = (2 ≤ part_count bs) × EachPart IsNoMaximum bs × AreShaped bs
  IsShaped (PowerOf c e) = (2 ≤ c) × IsShaped e

  pub AreShaped : Parts → Type 0
  AreShaped NoParts = ⊤
  AreShaped (Part b bs) = IsShaped b × AreShaped bs
