-- Runs of neighbours that belong together, and lists that are joined run by run.
use Rattle.std.specs.Prelude.{cond, Bool, false, List, [], ◌∷◌, ◌++◌}
use Rattle.bound_expr.specs.model.Bounds.{Bound}

-- neighbours that belong together: a first part and the others
pub record Run : Type 0 where
  pub first : Bound
  pub others : List Bound

-- the parts of a run
abbrev pub run_parts : Run → List Bound
run_parts r = r.first ∷ r.others

-- a part before runs: it joins the first run where it belongs with its first part, and else is a run of its own
abbrev pub with_part_before : (Bound → Bound → Bool) → Bound → List Run → List Run
with_part_before together p [] = record { first = p; others = [] } ∷ []
with_part_before together p (r ∷ rs) =
    cond (together p r.first) (record { first = p; others = run_parts r } ∷ rs)
    (record { first = p; others = [] } ∷ r ∷ rs)

-- the parts cut into the longest runs of neighbours that belong together
abbrev pub runs_of : (Bound → Bound → Bool) → List Bound → List Run
runs_of together [] = []
runs_of together (p ∷ ps) = with_part_before together p (runs_of together ps)

-- runs joined, each in its own position
abbrev pub all_runs_joined : (List Bound → List Bound) → List Run → List Bound
all_runs_joined join [] = []
all_runs_joined join (r ∷ rs) = join (run_parts r) ++ all_runs_joined join rs

-- the last of some parts belongs together with q
abbrev pub last_belongs : (Bound → Bound → Bool) → List Bound → Bound → Bool
last_belongs together [] q = false
last_belongs together (p ∷ []) q = together p q
last_belongs together (p ∷ r ∷ ps) q = last_belongs together (r ∷ ps) q
