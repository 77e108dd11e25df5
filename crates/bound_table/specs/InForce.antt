-- The two tables, and the one in force.
use Rattle.std.specs.Prelude.{◌≡◌, List, [], ◌∷◌}
use Rattle.bound_expr.specs.model.Bounds.{Bound}
use Rattle.bound_table.specs.declared.kinds.Case.{Case}
use Rattle.bound_table.specs.declared.kinds.Case.TheVariants.{Flat, FoldConst, ZeroProduct, Neutral, PowerConst}
use Rattle.bound_table.specs.declared.kinds.Case.TheVariants.{PowerShift, PowerMerge, Distribute, Order, Like}
use Rattle.bound_table.specs.declared.kinds.Case.TheVariants.{Dominate, Few}
use Rattle.bound_table.specs.Rewriting.{simplified}

-- the eight cases of the small table, in order
abbrev pub small_cases : List Case
small_cases = Flat ∷ FoldConst ∷ ZeroProduct ∷ Neutral ∷ Order ∷ Like ∷ Dominate ∷ Few ∷ []

-- the twelve cases of the large table, in order
abbrev pub large_cases : List Case
large_cases =
    Flat ∷ FoldConst ∷ ZeroProduct ∷ Neutral ∷ PowerConst ∷ PowerShift ∷ PowerMerge ∷ Distribute ∷ Order ∷ Like
    ∷ Dominate ∷ Few ∷ []

-- the table in force is the large one
abbrev pub cases_in_force : List Case
cases_in_force = large_cases

-- a bound rewritten by the table in force
unfoldable pub rewritten : Bound → Bound
rewritten b = simplified cases_in_force b

-- a table is in force: it lists the cases in force, in order, and a bound rewritten by it is the bound rewritten by the
-- table in force
pub record IsInForce (cases : List Case) : Type 0 where
  pub listed : cases ≡ cases_in_force
  pub rewrites : (b : Bound) → simplified cases b ≡ rewritten b
