-- The facts of the virtual entry, and weaker bounds, are good.
use Rattle.std.proofs.Common.{◌≡◌, ℕ, zero, suc, ◌-◌, ◌≤◌, List, [], ◌∷◌, Some, None, refl, sym, ap, ◌∙◌, arith, All}
use Rattle.std.proofs.Common.{le_trans, slice_index}
use Rattle.std.specs.Prelude.{ℤ, nat_abs}
use Rattle.std.proofs.lemmas.List.Elements.{All-nil, All-cons, All-head}
use Rattle.run_counting.specs.model.Programs.{Program, rule_at}
use Rattle.run_counting.specs.model.Runs.{Config, Step, IsRun, last_rule, place_value, sizes_of_start}
use Rattle.run_counting.specs.model.Bounds.{Bound, Constant, Input, IsBased}
use Rattle.run_counting.specs.model.Facts.{Fact, Time, Size, Cost, HoldsTime, HoldsSize, HoldsCost}
use Rattle.run_counting.proofs.model.RunLaws.{entry_once}
use Rattle.bound_expr.proofs.Nodes.{HasTidyNumbers-based}
use Rattle.rule_forms.specs.linear_forms.Forms.{at}
use Rattle.cert_rules.specs.Setting.{Setting, IsFaithful}
use Rattle.cert_rules.specs.AcceptsPlain.{AcceptsWeaken, places_at, start_sizes, start_facts, weakened}
use Rattle.cert_rules.proofs.GoodFacts.{IsGood}

-- the size of start argument j is its absolute value
size_of_start : (start : List ℤ) (j : ℕ) → slice_index (sizes_of_start start) j ≡ nat_abs (at start j)
size_of_start [] j = refl
size_of_start (x ∷ xs) zero = refl
size_of_start (x ∷ xs) (suc j) = size_of_start xs j

-- after the virtual entry place i has the value of start argument i
entry_size : (p : Program) (start : List ℤ) (steps : List Step) (c : Config) → IsRun p start steps c
    → last_rule steps ≡ 0 → (i : ℕ)
    → nat_abs (place_value c i) ≤ slice_index (sizes_of_start start) (i - 1)
entry_size p start (s ∷ earlier) c (b, run, step) last i =
    absurd (none_some (sym (ap (λ (n : ℕ). rule_at p n) last) ∙ step.numbered))
  where
    none_some : None ≡ Some step.rule → ⊥
    none_some e = cc
entry_size p start [] c run last zero = omega arith
entry_size p start [] c run last (suc j) =
    let same : suc j - 1 ≡ j = omega arith in
    omega (
      arith,
      ap (λ (xs : List ℤ). nat_abs (at xs j)) run.values,
      size_of_start start j,
      ap
          (λ (n : ℕ). slice_index (sizes_of_start start) n) same,
    )

-- the facts that the virtual entry has these sizes are good
start_sizes-good : (p : Program) (places : List ℕ) → All (IsGood p) (start_sizes places)
start_sizes-good p [] = All-nil (IsGood p)
start_sizes-good p (i ∷ is) =
    All-cons (IsGood p) (Size 0 i (Input (i - 1))) (start_sizes is) (record { holds = size; based = tt })
    (start_sizes-good p is)
  where
    size : HoldsSize p 0 i (Input (i - 1))
    size = record { each = λ start steps c run last. entry_size p start steps c run last i }

-- the facts of the virtual entry are good
pub start-good : (p : Program) → All (IsGood p) (start_facts p)
start-good p =
    All-cons (IsGood p) (Time 0 (Constant 1)) (start_sizes (places_at p (Some p.start)))
    (record { holds = time; based = tt }) (start_sizes-good p (places_at p (Some p.start)))
  where
    time : HoldsTime p 0 (Constant 1)
    time = record { each = λ start steps c run. omega (arith, entry_once p start steps c run) }

-- the fact that an accepted `weaken` node states is good
pub weaken-good : (s : Setting) → IsFaithful s → (facts : List Fact) → All (IsGood s.program) facts → (b : Bound)
    → AcceptsWeaken s facts b → All (IsGood s.program) (weakened facts b)
weaken-good s true_to [] good b h = absurd h.weaker
weaken-good s true_to (Time t a ∷ f ∷ facts) good b h = absurd h.weaker
weaken-good s true_to (Size t i a ∷ f ∷ facts) good b h = absurd h.weaker
weaken-good s true_to (Cost t a ∷ f ∷ facts) good b h = absurd h.weaker
weaken-good s true_to (Time t a ∷ []) good b h =
    let here : IsGood s.program (Time t a) = All-head (IsGood s.program) (Time t a) [] good in
    let time : HoldsTime s.program t a = here.holds in
    let based : IsBased b = HasTidyNumbers-based b h.shape.numbers in
    let weaker : HoldsTime s.program t b =
    record {
      each = λ start steps c run. le_trans (time.each start steps c run)
          (true_to.order a b here.based based h.weaker (sizes_of_start start));
    } in
    All-cons (IsGood s.program) (Time t b) [] (record { holds = weaker; based = based }) (All-nil (IsGood s.program))
weaken-good s true_to (Size t i a ∷ []) good b h =
    let here : IsGood s.program (Size t i a) = All-head (IsGood s.program) (Size t i a) [] good in
    let size : HoldsSize s.program t i a = here.holds in
    let based : IsBased b = HasTidyNumbers-based b h.shape.numbers in
    let weaker : HoldsSize s.program t i b =
    record {
      each = λ start steps c run last. le_trans (size.each start steps c run last)
          (true_to.order a b here.based based h.weaker (sizes_of_start start));
    } in
    All-cons (IsGood s.program) (Size t i b) [] (record { holds = weaker; based = based }) (All-nil (IsGood s.program))
weaken-good s true_to (Cost t a ∷ []) good b h =
    let here : IsGood s.program (Cost t a) = All-head (IsGood s.program) (Cost t a) [] good in
    let cost : HoldsCost s.program t a = here.holds in
    let based : IsBased b = HasTidyNumbers-based b h.shape.numbers in
    let weaker : HoldsCost s.program t b =
    record {
      each = λ start steps c run. le_trans (cost.each start steps c run)
          (true_to.order a b here.based based h.weaker (sizes_of_start start));
    } in
    All-cons (IsGood s.program) (Cost t b) [] (record { holds = weaker; based = based }) (All-nil (IsGood s.program))
