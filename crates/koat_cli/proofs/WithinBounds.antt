-- The tally along a run is within the bounds of a report that holds on all runs.
use Rattle.std.proofs.Common.{◌≡◌, ◌⊎◌, inl, inr, ℕ, zero, suc, ◌+◌, ◌≤◌, min, List, [], ◌∷◌, length, map, ℤ, get_or}
use Rattle.std.proofs.Common.{drop, Option, Some, None, is_some, refl, sym, ◌∙◌, ap, subst, arith}
use Rattle.std.specs.Prelude.{slice_get}
use Rattle.std.proofs.lemmas.List.{length-map}
use Rattle.std.specs.List.{AllByRecursion, range_with_len}
use Rattle.its_model.specs.Valid.{IsValidRule, IsValid}
use Rattle.model.specs.Bounds.{Bound, val}
use Rattle.model.specs.Facts.{HoldsTotal}
use Rattle.model.specs.Programs.{Rule, Program, arity_of, rule_at}
use Rattle.model.specs.Runs.{Step, IsRun, count, sizes_of_start}
use Rattle.model.specs.Spending.{spent, spent_all}
use Rattle.bound_expr.specs.Capped.{capped}
use Rattle.bound_expr.specs.Limits.{cap}
use Rattle.outcome.specs.Reports.{Time, Timed, Untimed, RuleCost, Costed, Uncosted, Size, Sized, Unsized, Report}
use Rattle.outcome.specs.Holding.{place_entry, numbered_entry, IsReportOn, ReportHolds}
use Rattle.run_replay.specs.ReplayLaws.{ReplaysAreDecided}
use Rattle.run_replay.specs.Replays.{IsRunInRange, IsSizeAfter, greatest_size, greatest_sizes, places_reached}
use Rattle.run_replay.specs.Replays.{tally_along}
use Rattle.koat_cli.specs.WithinBounds.{AreBeside, IsWithinTime, IsWithinCost, IsWithinSize, IsWithinTotal}
use Rattle.koat_cli.specs.WithinBounds.{IsWithinBounds}

-- if each number from k on has its partner, and the lists are equally long, all numbers do
beside_numbers : {X Y : Type 0} (Beside : X → Y → Type 0) (f : ℕ → X) (k n : ℕ) (ys : List Y) → length ys ≡ n
    → ((j m : ℕ) (y : Y) → m ≡ k + j → slice_get ys j ≡ Some y → Beside (f m) y)
    → AreBeside Beside (map f (range_with_len k n)) ys
beside_numbers Beside f k zero [] len h = tt
beside_numbers Beside f k zero (y ∷ ys) len h = absurd (omega (arith, len))
beside_numbers Beside f k (suc n) [] len h = absurd (omega (arith, len))
beside_numbers Beside f k (suc n) (y ∷ ys) len h = (
  h 0 k y (omega arith) refl,
  beside_numbers Beside f (k + 1) n ys (omega (arith, len)) (λ j m z e is. h (suc j) m z (omega (arith, e)) is),
)

-- a report on a valid program has as many entries for places after a rule as the rule has updates
row_places : (p : Program) (rules : List Rule) (rows : List (List Size)) (j : ℕ) (row : List Size)
    → AllByRecursion (IsValidRule p) rules → map length rows ≡ map (λ (r : Rule). arity_of p r.target) rules
    → slice_get rows j ≡ Some row → length row ≡ places_reached (slice_get rules j)
row_places p rules [] j row valid same e = absurd (let no_way : ⊥ = cc in no_way)
row_places p [] (s ∷ rows) j row valid same e = absurd (let no_way : ⊥ = cc in no_way)
row_places p (r ∷ rules) (s ∷ rows) zero row valid same e =
    let first : length s ≡ arity_of p r.target = ap (λ (ns : List ℕ). get_or ns 0 0) same in
    let is : s ≡ row = cc in
    sym (ap (λ (t : List Size). length t) is) ∙ (first ∙ sym valid.0.places)
row_places p (r ∷ rules) (s ∷ rows) (suc j) row valid same e =
    row_places p rules rows j row valid.1 (ap (λ (ns : List ℕ). drop 1 ns) same) e

-- a report on a program has as many rows of sizes as the program has rules
as_many_rows : (p : Program) (r : Report) → IsReportOn p r → length r.sizes ≡ length p.rules
as_many_rows p r on =
    sym (length-map r.sizes length)
    ∙ (ap (λ (ns : List ℕ). length ns) on.sizes ∙ length-map p.rules (λ (rule : Rule). arity_of p rule.target))

-- a report on a program has an entry for the cost of each rule
as_many_costs : (p : Program) (r : Report) → IsReportOn p r → length r.costs ≡ length p.rules
as_many_costs p r on =
    sym (length-map r.costs is_some)
    ∙ (ap length on.costs ∙ length-map p.rules (λ (rule : Rule). is_some rule.cost))

-- the lesser of two numbers is at most what one of them is at most
least_within : (n k m : ℕ) → n ≤ m → min n k ≤ m
least_within n k m h = grind arith

module _ (law : ReplaysAreDecided) (p : Program) (r : Report) (valid : IsValid p) (on : IsReportOn p r)
    (holds : ReportHolds p r) (start : List ℤ) (steps : List Step)
    (in_range : IsRunInRange p start steps) where
  -- the run that the steps are
  run : IsRun p start steps in_range.0
  run = in_range.1.run

  -- the count of a rule is within its time
  count_within : (j : ℕ) (t : Time) → slice_get r.times j ≡ Some t
      → IsWithinTime (sizes_of_start start) (count (suc j) steps) t
  count_within j (Timed b) e = (holds.times (suc j) b e).each start steps in_range.0 run
  count_within j (Untimed why) e = tt

  counts_within : (n : ℕ) → length r.times ≡ n
      → AreBeside (IsWithinTime (sizes_of_start start)) (map (λ t. count t steps) (range_with_len 1 n)) r.times
  counts_within n len =
      beside_numbers (IsWithinTime (sizes_of_start start)) (λ t. count t steps) 1 n r.times len
      (λ j m t e is. let next : suc j ≡ m = omega (arith, e) in
      subst (λ (k : ℕ). IsWithinTime (sizes_of_start start) (count k steps) t) next (count_within j t is))

  -- the cost of the steps by a rule is within its bound
  cost_within : (j : ℕ) (c : Option RuleCost) → slice_get r.costs j ≡ Some c
      → IsWithinCost (sizes_of_start start) (capped (spent p (suc j) start steps)) c
  cost_within j None e = tt
  cost_within j (Some (Costed b)) e =
      least_within (spent p (suc j) start steps) cap (val b (sizes_of_start start))
      ((holds.costs (suc j) b e).each start steps in_range.0 run)
  cost_within j (Some (Uncosted why)) e = tt

  costs_within : (n : ℕ) → length r.costs ≡ n
      → AreBeside (IsWithinCost (sizes_of_start start)) (map (λ t. capped (spent p t start steps)) (range_with_len 1 n)) r.costs
  costs_within n len =
      beside_numbers (IsWithinCost (sizes_of_start start)) (λ t. capped (spent p t start steps)) 1 n r.costs len
      (λ j m c e is. let next : suc j ≡ m = omega (arith, e) in
      subst (λ (k : ℕ). IsWithinCost (sizes_of_start start) (capped (spent p k start steps)) c) next (cost_within j c is))

  -- the cost of all steps is within the total
  total_within : (o : Option Bound) → ((b : Bound) → o ≡ Some b → HoldsTotal p b)
      → IsWithinTotal (sizes_of_start start) (capped (spent_all p start steps)) o
  total_within None h = tt
  total_within (Some b) h =
      least_within (spent_all p start steps) cap (val b (sizes_of_start start)) ((h b refl).each start steps in_range.0 run)

  -- the greatest absolute value at a place after a rule is within its size
  size_within : (j i : ℕ) (s : Size) → place_entry (numbered_entry r.sizes (suc j)) (suc i) ≡ Some s
      → IsWithinSize (sizes_of_start start) (greatest_size p start (suc j) (suc i) steps) s
  size_within j i (Sized b) e = go (law.greatest p start steps (suc j) (suc i) (omega arith) in_range).reached
    where
      go : IsSizeAfter p start steps (suc j) (suc i) (greatest_size p start (suc j) (suc i) steps)
          ⊎ ((count (suc j) steps ≡ 0) × (greatest_size p start (suc j) (suc i) steps ≡ 0))
          → greatest_size p start (suc j) (suc i) steps ≤ val b (sizes_of_start start)
      go (inl w) =
          subst (λ (n : ℕ). n ≤ val b (sizes_of_start start)) w.size
          ((holds.sizes (suc j) (suc i) b e).each start w.earlier w.end w.run w.last)
      go (inr none) = let least = none.1 in omega (arith, least)
  size_within j i (Unsized why) e = tt

  row_within : (j : ℕ) (row : List Size) → slice_get r.sizes j ≡ Some row
      → AreBeside (IsWithinSize (sizes_of_start start)) (greatest_sizes p start steps (suc j)) row
  row_within j row e =
      beside_numbers (IsWithinSize (sizes_of_start start)) (λ i. greatest_size p start (suc j) i steps) 1
      (places_reached (rule_at p (suc j))) row (row_places p p.rules r.sizes j row valid.rules on.sizes e)
      (λ i m s at is. let next : suc i ≡ m = omega (arith, at) in
      subst (λ (k : ℕ). IsWithinSize (sizes_of_start start) (greatest_size p start (suc j) k steps) s) next
      (size_within j i s (ap (λ (o : Option (List Size)). place_entry o (suc i)) e ∙ is)))

  rows_within : (n : ℕ) → length r.sizes ≡ n → AreBeside (AreBeside (IsWithinSize (sizes_of_start start)))
      (map (greatest_sizes p start steps) (range_with_len 1 n)) r.sizes
  rows_within n len =
      beside_numbers (AreBeside (IsWithinSize (sizes_of_start start))) (greatest_sizes p start steps) 1 n r.sizes len
      (λ j m row e is. let next : suc j ≡ m = omega (arith, e) in
      subst (λ (k : ℕ). AreBeside (IsWithinSize (sizes_of_start start)) (greatest_sizes p start steps k) row) next
      (row_within j row is))

-- all numbers of the tally are within their bounds
pub tally_within : ReplaysAreDecided → (p : Program) (r : Report) (start : List ℤ) (steps : List Step) → IsValid p
    → IsReportOn p r → ReportHolds p r → IsRunInRange p start steps → IsWithinBounds (sizes_of_start start) (tally_along p start steps) r
tally_within law p r start steps valid on holds h = record {
  counts = counts_within law p r valid on holds start steps h (length p.rules) on.times;
  costs = costs_within law p r valid on holds start steps h (length p.rules) (as_many_costs p r on);
  total = total_within law p r valid on holds start steps h r.total holds.total;
  greatest = rows_within law p r valid on holds start steps h (length p.rules) (as_many_rows p r on);
}
