-- A turn that leads on each time can be repeated without end.
use Rattle.std.proofs.Common.{◌≡◌, inl, inr, ℕ, zero, suc, ◌+◌, ◌≤◌, List, [], ◌∷◌, ◌++◌, ℤ}
use Rattle.std.proofs.Common.{refl, sym, ◌∙◌, ap, subst, arith}
use Rattle.model.specs.Programs.{Program, rule_at}
use Rattle.model.specs.Runs.{Config, Step, IsRun, count, sizes_of_start}
use Rattle.model.specs.Spending.{cost, updated, values_after, step_cost, spent_all}
use Rattle.model.specs.Bounds.{Bound, val}
use Rattle.model.specs.Facts.{HoldsTotal}
use Rattle.model.proofs.RunLaws.{one_if_same-same, same_end}
use Rattle.model.proofs.CostLaws.{stands_at}
use Rattle.lassos.specs.Lassos.{Endless, LeadsTo, IsUsed}

-- a run with a path from its end is a run
pub run_on : (p : Program) (start : List ℤ) (more : List Step) (c : Config) (turn : List Step) (d : Config)
    → IsRun p start more c → LeadsTo p c turn d → IsRun p start (turn ++ more) d
run_on p start more c [] d run e = subst (IsRun p start more) (sym e) run
run_on p start more c (s ∷ turn) d run (b, path, step) = (b, run_on p start more c turn b run path, step)

-- the later steps of a run are a path from the end of its earlier steps
pub path_of : (p : Program) (start : List ℤ) (more : List Step) (c : Config) (turn : List Step) (d : Config)
    → IsRun p start more c → IsRun p start (turn ++ more) d → LeadsTo p c turn d
path_of p start more c [] d run whole = same_end p start more d c whole run
path_of p start more c (s ∷ turn) d run (b, whole, step) = (b, path_of p start more c turn b run whole, step)

-- with more steps a rule occurs at least as often
count-le_append : (t : ℕ) (turn more : List Step) → count t more ≤ count t (turn ++ more)
count-le_append t [] more = omega arith
count-le_append t (s ∷ turn) more = omega (arith, count-le_append t turn more)

-- if a turn uses a rule, the rule occurs after the turn at least once more than before it
count-append : (t : ℕ) (turn more : List Step) → IsUsed t turn → 1 + count t more ≤ count t (turn ++ more)
count-append t [] more h = absurd h
count-append t (s ∷ turn) more (inl e) = omega (arith, one_if_same-same s.rule t e, count-le_append t turn more)
count-append t (s ∷ turn) more (inr h) = omega (arith, count-append t turn more h)

-- the values after two lists of steps are those after the later steps from the values after the earlier ones
values_after-append : (p : Program) (start : List ℤ) (turn more : List Step)
    → values_after p start (turn ++ more) ≡ values_after p (values_after p start more) turn
values_after-append p start [] more = refl
values_after-append p start (s ∷ turn) more =
    ap (λ (v : List ℤ). updated (rule_at p s.rule) (v ++ s.free)) (values_after-append p start turn more)

-- the cost of a run with a turn after it is the cost of the run and that of the turn from the values at the run's end
spent_all-after : (p : Program) (start : List ℤ) (turn more : List Step)
    → spent_all p start (turn ++ more) ≡ spent_all p (values_after p start more) turn + spent_all p start more
spent_all-after p start [] more = omega arith
spent_all-after p start (s ∷ turn) more =
    let same : step_cost p start s (turn ++ more) ≡ step_cost p (values_after p start more) s turn =
    ap (λ (v : List ℤ). cost p s.rule (v ++ s.free)) (values_after-append p start turn more) in
    omega (arith, same, spent_all-after p start turn more)

pub spent_all-append : (p : Program) (start : List ℤ) (turn more : List Step) (c : Config) → IsRun p start more c
    → spent_all p start (turn ++ more) ≡ spent_all p c.values turn + spent_all p start more
spent_all-append p start turn more c run =
    spent_all-after p start turn more
    ∙ ap (λ (v : List ℤ). spent_all p v turn + spent_all p start more) (sym (stands_at p start more c run))

-- the steps of the stem, followed by this many turns
abbrev pub turns : List Step → ℕ → List Step → List Step
turns turn zero stem = stem
turns turn (suc n) stem = turn ++ turns turn n stem

-- the configurations from each of which the turn leads to the next one
module _ (p : Program) (start : List ℤ) (stem turn : List Step) (at : ℕ → Config) (stems : IsRun p start stem (at 0))
    (leads : (n : ℕ) → LeadsTo p (at n) turn (at (suc n))) where
  pub turned : (n : ℕ) → IsRun p start (turns turn n stem) (at n)
  turned zero = stems
  turned (suc n) = run_on p start (turns turn n stem) (at n) turn (at (suc n)) (turned n) (leads n)

  counted : (t : ℕ) → IsUsed t turn → (n : ℕ) → n ≤ count t (turns turn n stem)
  counted t used zero = omega arith
  counted t used (suc n) = omega (arith, counted t used n, count-append t turn (turns turn n stem) used)

  pub repeated : (t : ℕ) → IsUsed t turn → Endless p start t
  repeated t used = record { each = λ n. (turns turn n stem, at n, turned n, counted t used n) }

  -- this many turns cost at least as much as their number, if each turn costs something
  charged : ((n : ℕ) → 1 ≤ spent_all p (at n).values turn) → (n : ℕ) → n ≤ spent_all p start (turns turn n stem)
  charged costs zero = omega arith
  charged costs (suc n) = omega (arith, charged costs n, costs n, spent_all-append p start turn (turns turn n stem) (at n) (turned n))

  pub no_total : ((n : ℕ) → 1 ≤ spent_all p (at n).values turn) → (bound : Bound) → ¬ (HoldsTotal p bound)
  no_total costs bound holds =
      let n : ℕ = suc (val bound (sizes_of_start start)) in
      omega (arith, charged costs n, holds.each start (turns turn n stem) (at n) (turned n))
