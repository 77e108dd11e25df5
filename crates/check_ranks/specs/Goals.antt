-- The decrease of a ranking function by a rule, column by column.
use Rattle.std.specs.Prelude.{ℕ, ◌≤◌, List, length}
use Rattle.std.specs.List.{All}
use Rattle.poly_terms.specs.linear_forms.Forms.{Form}

-- no form has a coefficient past the first `width` unknowns
pub record AreWithin (width : ℕ) (f : Form) (fs : List Form) : Type 0 where
  pub before : length f.coefs ≤ width
  pub new_values : All (λ g. length g.coefs ≤ width) fs
