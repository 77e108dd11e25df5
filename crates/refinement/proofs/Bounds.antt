-- Bounds carry over from a program that simulates another.
use Rattle.std.proofs.Common.{◌≡◌, ◌≢◌, ◌⊎◌, inl, inr, true, false, ◌==◌, ℕ, zero, suc, ◌+◌, ◌≤◌, List, [], ◌∷◌, ◌++◌}
use Rattle.std.proofs.Common.{length, map, ℤ, nat_abs, Option, Some, refl, sym, ◌∙◌, ap, subst, arith}
use Rattle.std.specs.List.{All}
use Rattle.std.proofs.lemmas.List.{length-map}
use Rattle.std.proofs.lemmas.List.Elements.{All-weaker, All-contains}
use Rattle.std.proofs.lemmas.Bool.Decides.{eqb_tells}
use Rattle.model.specs.Terms.{Term, value}
use Rattle.model.specs.Bounds.{Bound, val}
use Rattle.model.specs.Spending.{cost_at, cost_by, updated, values_after, step_cost, spent, spent_all}
use Rattle.model.specs.Facts.{HoldsTime, HoldsSize, HoldsCost}
use Rattle.model.specs.Programs.{Program, Rule, rule_at}
use Rattle.model.specs.Runs.{Config, Step, IsStep, IsRun, count, last_rule, place_value, sizes_of_start}
use Rattle.model.proofs.CostLaws.{spent_more, spent_same}
use Rattle.model.proofs.RunLaws.{one_if_same-same, one_if_same-other}
use Rattle.model.specs.Facts.{HoldsLength, HoldsTotal}
use Rattle.refinement.specs.Simulation.{Projection, config_below, step_below, HasRuleBelow}
use Rattle.refinement.specs.Lifted.{AllRunsLift, AreCopies, sum_of, maximum_of, BoundsAreKept}
use Rattle.refinement.proofs.Sums.{sum_over, sum-at_least, sum-with, sum-within, maximum-over}

-- the value at a place is the same in the configuration below
place-below : (o : Projection) (c : Config) (i : ℕ) → place_value (config_below o c) i ≡ place_value c i
place-below o c zero = refl
place-below o c (suc i) = refl

-- laws for a step by a rule of q: it costs what the step below costs, and leads to the same values
module _ (p q : Program) (o : Projection)
    (copies : (t : ℕ) (copy : Rule) → rule_at q t ≡ Some copy → HasRuleBelow p o t copy) where
  updated-below : (t : ℕ) (copy : Rule) (env : List ℤ) → rule_at q t ≡ Some copy
      → updated (rule_at p (o.rule t)) env ≡ updated (rule_at q t) env
  updated-below t copy env numbered =
      let below = copies t copy numbered in
      ap (λ (x : Option Rule). updated x env) below.numbered
      ∙ (ap (λ (us : List Term). map (λ u. value u env) us) (sym below.copies.updates)
      ∙ ap (λ (x : Option Rule). updated x env) (sym numbered))

  pub cost-below : (t : ℕ) (copy : Rule) (env : List ℤ) → rule_at q t ≡ Some copy
      → cost_by (rule_at p (o.rule t)) env ≡ cost_by (rule_at q t) env
  cost-below t copy env numbered =
      let below = copies t copy numbered in
      ap (λ (x : Option Rule). cost_by x env) below.numbered
      ∙ (ap (λ (k : Option Term). cost_at k env) (sym below.copies.cost)
      ∙ ap (λ (x : Option Rule). cost_by x env) (sym numbered))

  pub values-below : (start : List ℤ) (steps : List Step) (c : Config) → IsRun q start steps c
      → values_after p start (map (step_below o) steps) ≡ values_after q start steps
  values-below start [] c run = refl
  values-below start (s ∷ earlier) c (b, run, step) =
      ap (λ (v : List ℤ). updated (rule_at p (o.rule s.rule)) (v ++ s.free)) (values-below start earlier b run)
      ∙ updated-below s.rule step.rule (values_after q start earlier ++ s.free) step.numbered

  step_cost-below : (start : List ℤ) (s : Step) (earlier : List Step) (b c : Config) → IsRun q start earlier b
      → IsStep q b s c
      → step_cost p start (step_below o s) (map (step_below o) earlier) ≡ step_cost q start s earlier
  step_cost-below start s earlier b c run step =
      ap (λ (v : List ℤ). cost_by (rule_at p (o.rule s.rule)) (v ++ s.free)) (values-below start earlier b run)
      ∙ cost-below s.rule step.rule (values_after q start earlier ++ s.free) step.numbered

  -- all steps of a run cost what the steps below them cost
  spent_all-below : (start : List ℤ) (steps : List Step) (c : Config) → IsRun q start steps c
      → spent_all p start (map (step_below o) steps) ≡ spent_all q start steps
  spent_all-below start [] c run = refl
  spent_all-below start (s ∷ earlier) c (b, run, step) =
      omega (arith, step_cost-below start s earlier b c run step, spent_all-below start earlier b run)

  module _ (n : ℕ) (ts : List ℕ) (rule : n ≢ 0) (all : AreCopies q o n ts) where
    -- a rule occurs in the run below at most as often as all its copies in the run
    count-below : (start : List ℤ) (steps : List Step) (c : Config) → IsRun q start steps c
        → count n (map (step_below o) steps) ≤ sum_over (λ t. count t steps) ts
    count-below start [] c run = omega (arith, one_if_same-other 0 n (λ e. rule (sym e)))
    count-below start (s ∷ earlier) c (b, run, step) =
        go (eqb_tells (o.rule s.rule) n) (count-below start earlier b run)
      where
        go : ((o.rule s.rule == n) ≡ true) × (o.rule s.rule ≡ n) ⊎ ((o.rule s.rule == n) ≡ false) × (o.rule s.rule ≢ n)
            → count n (map (step_below o) earlier) ≤ sum_over (λ t. count t earlier) ts
            → count n (map (step_below o) (s ∷ earlier)) ≤ sum_over (λ t. count t (s ∷ earlier)) ts
        go (inl (test, same)) ih =
            let risen : 1 + sum_over (λ t. count t earlier) ts ≤ sum_over (λ t. count t (s ∷ earlier)) ts =
            sum-with 1 s.rule (λ t. count t earlier) ts (all.each s.rule step.rule step.numbered same) in
            omega (arith, ih, risen, one_if_same-same (o.rule s.rule) n same)
        go (inr (test, other)) ih =
            let risen : sum_over (λ t. count t earlier) ts ≤ sum_over (λ t. count t (s ∷ earlier)) ts =
            sum-at_least 1 s.rule (λ t. count t earlier) ts in
            omega (arith, ih, risen, one_if_same-other (o.rule s.rule) n other)

    -- a rule spends in the run below at most what all its copies spend in the run
    spent-below : (start : List ℤ) (steps : List Step) (c : Config) → IsRun q start steps c
        → spent p n start (map (step_below o) steps) ≤ sum_over (λ t. spent q t start steps) ts
    spent-below start [] c run = omega arith
    spent-below start (s ∷ earlier) c (b, run, step) =
        go (eqb_tells (o.rule s.rule) n) (spent-below start earlier b run)
      where
        weight : ℕ
        weight = step_cost q start s earlier

        go : ((o.rule s.rule == n) ≡ true) × (o.rule s.rule ≡ n) ⊎ ((o.rule s.rule == n) ≡ false) × (o.rule s.rule ≢ n)
            → spent p n start (map (step_below o) earlier) ≤ sum_over (λ t. spent q t start earlier) ts
            → spent p n start (map (step_below o) (s ∷ earlier)) ≤ sum_over (λ t. spent q t start (s ∷ earlier)) ts
        go (inl (test, same)) ih =
            let risen : step_cost q start s earlier + sum_over (λ t. spent q t start earlier) ts
            ≤ sum_over (λ t. spent q t start (s ∷ earlier)) ts =
            sum-with (step_cost q start s earlier) s.rule (λ t. spent q t start earlier) ts
            (all.each s.rule step.rule step.numbered same) in
            omega (
              arith,
              ih,
              risen,
              step_cost-below start s earlier b c run step,
              spent_more p n start (step_below o s) (map (step_below o) earlier) same,
            )
        go (inr (test, other)) ih =
            let risen : sum_over (λ t. spent q t start earlier) ts ≤ sum_over (λ t. spent q t start (s ∷ earlier)) ts =
            sum-at_least (step_cost q start s earlier) s.rule (λ t. spent q t start earlier) ts in
            omega (arith, ih, risen, spent_same p n start (step_below o s) (map (step_below o) earlier) other)

  module _ (HasFacts : Config → Type 0) (lifts : AllRunsLift p q o HasFacts) where
    times : (n : ℕ) (ts : List ℕ) (bound : ℕ → Bound) → n ≢ 0 → AreCopies q o n ts
        → All (λ t. HoldsTime q t (bound t)) ts → HoldsTime p n (sum_of bound ts)
    times n ts bound rule all h = record {
      each = λ start steps c run.
          let l = lifts.each start steps c run in
          let m : List ℕ = sizes_of_start start in
          let within : sum_over (λ t. count t l.above) ts ≤ val (sum_of bound ts) m =
          sum-within (λ t. count t l.above) bound m ts
          (All-weaker (λ t. HoldsTime q t (bound t)) (λ t. count t l.above ≤ val (bound t) m)
          (λ t holds. holds.each start l.above l.end l.run) ts h) in
          let below : count n (map (step_below o) l.above) ≤ val (sum_of bound ts) m =
          omega (arith, within, count-below n ts rule all start l.above l.end l.run) in
          subst (λ (xs : List Step). count n xs ≤ val (sum_of bound ts) m) l.steps_below below;
    }

    costs : (n : ℕ) (ts : List ℕ) (bound : ℕ → Bound) → n ≢ 0 → AreCopies q o n ts
        → All (λ t. HoldsCost q t (bound t)) ts → HoldsCost p n (sum_of bound ts)
    costs n ts bound rule all h = record {
      each = λ start steps c run.
          let l = lifts.each start steps c run in
          let m : List ℕ = sizes_of_start start in
          let within : sum_over (λ t. spent q t start l.above) ts ≤ val (sum_of bound ts) m =
          sum-within (λ t. spent q t start l.above) bound m ts
          (All-weaker (λ t. HoldsCost q t (bound t)) (λ t. spent q t start l.above ≤ val (bound t) m)
          (λ t holds. holds.each start l.above l.end l.run) ts h) in
          let below : spent p n start (map (step_below o) l.above) ≤ val (sum_of bound ts) m =
          omega (arith, within, spent-below n ts rule all start l.above l.end l.run) in
          subst (λ (xs : List Step). spent p n start xs ≤ val (sum_of bound ts) m) l.steps_below below;
    }

    -- the last step of a run that ends with rule n below is by a copy of it, whose bound bounds the sizes there
    size : (n i : ℕ) (ts : List ℕ) (bound : ℕ → Bound) → n ≢ 0 → AreCopies q o n ts
        → All (λ t. HoldsSize q t i (bound t)) ts → (start : List ℤ) (steps : List Step) (end : Config)
        → IsRun q start steps end → last_rule (map (step_below o) steps) ≡ n
        → nat_abs (place_value end i) ≤ val (maximum_of bound ts) (sizes_of_start start)
    size n i ts bound rule all h start [] end run last = absurd (rule (sym last))
    size n i ts bound rule all h start (s ∷ earlier) end (b, run, step) last =
        let member = all.each s.rule step.rule step.numbered last in
        let holds : HoldsSize q s.rule i (bound s.rule) =
        All-contains (λ t. HoldsSize q t i (bound t)) ts s.rule h member in
        let one = holds.each start (s ∷ earlier) end (b, run, step) refl in
        omega (arith, one, maximum-over bound (sizes_of_start start) ts s.rule member)

    sizes : (n i : ℕ) (ts : List ℕ) (bound : ℕ → Bound) → n ≢ 0 → AreCopies q o n ts
        → All (λ t. HoldsSize q t i (bound t)) ts → HoldsSize p n i (maximum_of bound ts)
    sizes n i ts bound rule all h = record {
      each = λ start steps c run last.
          let l = lifts.each start steps c run in
          let m : List ℕ = sizes_of_start start in
          let above : nat_abs (place_value l.end i) ≤ val (maximum_of bound ts) m =
          size n i ts bound rule all h start l.above l.end l.run (ap last_rule l.steps_below ∙ last) in
          let same : place_value c i ≡ place_value l.end i =
          ap (λ (x : Config). place_value x i) (sym l.end_below) ∙ place-below o l.end i in
          subst (λ (z : ℤ). nat_abs z ≤ val (maximum_of bound ts) m) (sym same) above;
    }

    lengths : (bound : Bound) → HoldsLength q bound → HoldsLength p bound
    lengths bound h = record {
      each = λ start steps c run.
          let l = lifts.each start steps c run in
          let long : length steps ≡ length l.above = ap length (sym l.steps_below) ∙ length-map l.above (step_below o) in
          subst (λ (k : ℕ). k ≤ val bound (sizes_of_start start)) (sym long) (h.each start l.above l.end l.run);
    }

    totals : (bound : Bound) → HoldsTotal q bound → HoldsTotal p bound
    totals bound h = record {
      each = λ start steps c run.
          let l = lifts.each start steps c run in
          let same : spent_all p start steps ≡ spent_all q start l.above =
          ap (spent_all p start) (sym l.steps_below) ∙ spent_all-below start l.above l.end l.run in
          subst (λ (k : ℕ). k ≤ val bound (sizes_of_start start)) (sym same) (h.each start l.above l.end l.run);
    }

    pub bounds_are_kept : BoundsAreKept p q o
    bounds_are_kept = record { times = times; costs = costs; sizes = sizes; lengths = lengths; totals = totals }
