-- Joining runs keeps the value of the parts, if joining one run does.
use Rattle.std.proofs.Common.{◌≡◌, ℕ, Bool, true, false, cond, List, [], ◌∷◌, ◌++◌, refl, ap, sym, ◌∙◌}
use Rattle.bound_expr.specs.model.Bounds.{Bound}
use Rattle.bound_table.specs.declared.kinds.Kind.{Kind}
use Rattle.bound_table.specs.Kinds.{joined}
use Rattle.bound_table.specs.Runs.{Run, run_parts, with_part_before, runs_of, all_runs_joined}
use Rattle.bound_table.proofs.Products.{parts_at}
use Rattle.bound_table.proofs.CaseValues.{parts_at-append}
use Rattle.bound_table.proofs.Each.{Each}
use Rattle.bound_table.proofs.PartFacts.{EachRun, IsGoodRun, AreTogether, runs_of-good}

-- the parts of all runs
abbrev all_parts : List Run → List Bound
all_parts [] = []
all_parts (r ∷ rs) = run_parts r ++ all_parts rs

-- the parts of all runs with a part put before them are that part and the parts of the runs
all_parts-before : (t : Bound → Bound → Bool) (p : Bound) (rs : List Run)
    → all_parts (with_part_before t p rs) ≡ p ∷ all_parts rs
all_parts-before t p [] = refl
all_parts-before t p (r ∷ rs) = go (t p r.first)
  where
    go : (b : Bool)
        → all_parts (cond b (record { first = p; others = run_parts r } ∷ rs) (record { first = p; others = [] } ∷ r ∷ rs))
        ≡ p ∷ (run_parts r ++ all_parts rs)
    go true = refl
    go false = refl

-- the parts of the runs that parts are cut into are these parts
all_parts-runs_of : (t : Bound → Bound → Bool) (ps : List Bound) → all_parts (runs_of t ps) ≡ ps
all_parts-runs_of t [] = refl
all_parts-runs_of t (p ∷ ps) =
    all_parts-before t p (runs_of t ps) ∙ ap (λ (qs : List Bound). p ∷ qs) (all_parts-runs_of t ps)

-- every part has the property that always holds
each-always : (ps : List Bound) → Each (λ _. Unit {0}) ps
each-always [] = tt
each-always (p ∷ ps) = (tt, each-always ps)

-- joined runs have the value of their parts
all_runs_joined-value : (k : Kind) (t : Bound → Bound → Bool) (join : List Bound → List Bound)
    → ((p : Bound) (ps : List Bound) (m : List ℕ) → AreTogether t p ps
    → parts_at k (join (p ∷ ps)) m ≡ parts_at k (p ∷ ps) m)
    → (rs : List Run) (m : List ℕ) → EachRun (IsGoodRun t (λ _. Unit {0})) rs
    → parts_at k (all_runs_joined join rs) m ≡ parts_at k (all_parts rs) m
all_runs_joined-value k t join one [] m good = refl
all_runs_joined-value k t join one (r ∷ rs) m good =
    parts_at-append k (join (run_parts r)) (all_runs_joined join rs) m
    ∙ ap (λ (v : ℕ). joined k v (parts_at k (all_runs_joined join rs) m)) (one r.first r.others m good.0.alike)
    ∙ ap (joined k (parts_at k (run_parts r) m)) (all_runs_joined-value k t join one rs m good.1)
    ∙ sym (parts_at-append k (run_parts r) (all_parts rs) m)

-- joining runs keeps the value
pub parts_at-runs_joined : (k : Kind) (t : Bound → Bound → Bool) (join : List Bound → List Bound)
    → ((p : Bound) (ps : List Bound) (m : List ℕ) → AreTogether t p ps
    → parts_at k (join (p ∷ ps)) m ≡ parts_at k (p ∷ ps) m)
    → (ps : List Bound) (m : List ℕ) → parts_at k (all_runs_joined join (runs_of t ps)) m ≡ parts_at k ps m
parts_at-runs_joined k t join one ps m =
    all_runs_joined-value k t join one (runs_of t ps) m (runs_of-good t (λ _. Unit {0}) ps (each-always ps))
    ∙ ap (λ (qs : List Bound). parts_at k qs m) (all_parts-runs_of t ps)
