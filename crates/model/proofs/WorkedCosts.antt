-- Proofs of the worked values of costs: of steps, of runs, and bounds on all runs.
use Rattle.std.proofs.Common.{◌≡◌, ◌≢◌, ℕ, zero, suc, ◌≤◌, List, [], ◌∷◌, ◌++◌, length, ℤ, pos, negsuc, nat_abs, ◌≤ℤ◌}
use Rattle.std.proofs.Common.{◌+ℤ◌, neg_ℤ}
use Rattle.std.proofs.Common.{Some, None, refl, sym, ◌∙◌, ap, arith}
use Rattle.std.proofs.lemmas.Int.{ints}
use Rattle.model.specs.Programs.{Rule, rule_at}
use Rattle.model.specs.Runs.{Config, Step, Leads, IsStep, IsRun, count, place_value}
use Rattle.model.specs.Spending.{or_zero, cost, values_after, step_cost, spent}
use Rattle.model.specs.Worked.{by_rule, two_values, four_steps}
use Rattle.model.specs.WorkedRuns.{countdown, entering, looping, both}
use Rattle.model.specs.WorkedCosts.{paying, StepsCost, RunsSpend, CostsHold}
use Rattle.model.proofs.WorkedRuns.{entered, runs_are_runs}
use Rattle.model.proofs.CountdownRuns.{value_at, without_free, StepOf, ByFirst, BySecond, step_of, Looks, Begun}
use Rattle.model.proofs.CountdownRuns.{Entered}
use Rattle.model.proofs.CountdownRuns.{Looped, looks, more_first, more_second, two_starts, sizes_of_two, loop_nine}
use Rattle.model.proofs.CostLaws.{stands_at, spent_more, spent_same, plain_spend, step_without, run_without}
use Rattle.model.proofs.CostLaws.{run_back}

-- the worked values of the cost of steps hold
pub steps_cost : StepsCost
steps_cost = record { none_written = refl; written = refl; nothing = refl; negative = refl; free_variable = refl; of_second_rule = refl; of_plain_rule = refl; of_the_entry = refl; past_the_rules = refl }

-- the worked values of what runs spend hold
pub runs_spend : RunsSpend
runs_spend = record { entering = refl; rounds = refl; all = refl; negative_start = refl; entry = refl; no_step = refl; free_value = refl; all_free_value = refl; plain = refl; all_plain = refl }

-- a run of the program with costs is a run of the program without them, so it has the form of such runs
pub as_countdown : (start : List ℤ) (steps : List Step) (c : Config) → IsRun paying start steps c
    → IsRun countdown start steps c
as_countdown start steps c run = run_without paying start steps c run

pub as_paying : (start : List ℤ) (steps : List Step) (c : Config) → IsRun countdown start steps c
    → IsRun paying start steps c
as_paying start steps c run = run_back paying start steps c run

-- the cost of a step by rule 1 is A before it, and that by rule 2 is B before it, or 0 if that is negative
charged_first : (start : List ℤ) (s : Step) (earlier : List Step) (b : Config) → s.rule ≡ 1
    → IsRun paying start earlier b → length b.values ≡ 2 → length s.free ≡ 0
    → step_cost paying start s earlier ≡ or_zero (place_value b 1)
charged_first start s earlier b e run two none =
    ap (λ (n : ℕ). cost paying n (values_after paying start earlier ++ s.free)) e
    ∙ (ap (λ (v : List ℤ). or_zero (value_at (v ++ s.free) 0)) (sym (stands_at paying start earlier b run))
    ∙ ap or_zero (without_free b.values s.free two none).0)

charged_second : (start : List ℤ) (s : Step) (earlier : List Step) (b : Config) → s.rule ≡ 2
    → IsRun paying start earlier b → length b.values ≡ 2 → length s.free ≡ 0
    → step_cost paying start s earlier ≡ or_zero (place_value b 2)
charged_second start s earlier b e run two none =
    ap (λ (n : ℕ). cost paying n (values_after paying start earlier ++ s.free)) e
    ∙ (ap (λ (v : List ℤ). or_zero (value_at (v ++ s.free) 1)) (sym (stands_at paying start earlier b run))
    ∙ ap or_zero (without_free b.values s.free two none).1)

-- a step of the program with the loop begins at a configuration of two values, and has no free values
plain_step : (b : Config) (s : Step) (c : Config) → IsStep countdown b s c → (length b.values ≡ 2) × (length s.free ≡ 0)
plain_step b s c h = go s.rule h.rule h.numbered h.leads
  where
    go : (t : ℕ) (r : Rule) → rule_at countdown t ≡ Some r → Leads r b s.free c → (length b.values ≡ 2) × (length s.free ≡ 0)
    go zero r e l = absurd (none_some e)
      where
        none_some : None ≡ Some r → ⊥
        none_some x = cc
    go (suc zero) r e l =
        let same : entering ≡ r = cc in
        (l.left ∙ sym (ap (λ (q : Rule). q.left) same), l.free_ones ∙ sym (ap (λ (q : Rule). q.free) same))
    go (suc (suc zero)) r e l =
        let same : looping ≡ r = cc in
        (l.left ∙ sym (ap (λ (q : Rule). q.left) same), l.free_ones ∙ sym (ap (λ (q : Rule). q.free) same))
    go (suc (suc (suc t))) r e l = absurd (none_some e)
      where
        none_some : None ≡ Some r → ⊥
        none_some x = cc

-- what a run of the program with costs has spent: without a step by rule 1, nothing on entering, and else at most the
-- absolute value of A; without a step by rule 2, nothing on rounds, and else at most the absolute value of B
pub record Spends (start : List ℤ) (steps : List Step) : Type 0 where
  pub unentered : count 1 steps ≡ 0 → spent paying 1 start steps ≡ 0
  pub on_entering : spent paying 1 start steps ≤ nat_abs (value_at start 0)
  pub unlooped : count 2 steps ≡ 0 → spent paying 2 start steps ≡ 0
  pub on_rounds : spent paying 2 start steps ≤ nat_abs (value_at start 1)

-- an integer, or 0 if it is negative, is at most its absolute value
or_zero_small : (x : ℤ) → or_zero x ≤ nat_abs x
or_zero_small (pos n) = omega arith
or_zero_small (negsuc n) = omega arith

-- a negative integer counts as 0
or_zero_below : (x y : ℤ) → pos 0 ≤ℤ y → x ≡ neg_ℤ (y +ℤ pos 1) → or_zero x ≡ 0
or_zero_below (pos n) y low e = omega (arith, ints, low, e)
or_zero_below (negsuc n) y low e = refl

-- after one more step by rule 1, a run has spent this much
first_spends : (start : List ℤ) (s : Step) (earlier : List Step) (b : Config) → s.rule ≡ 1 → Looks start earlier b
    → b.at ≡ 0 → step_cost paying start s earlier ≡ or_zero (place_value b 1) → count 2 (s ∷ earlier) ≡ count 2 earlier
    → count 1 (s ∷ earlier) ≡ suc (count 1 earlier) → Spends start earlier → Spends start (s ∷ earlier)
first_spends start s earlier b e (Begun one two len last at first second) zero_at charged same more before =
    let now = spent_more paying 1 start s earlier e in
    let rounds = spent_same paying 2 start s earlier (λ h. omega (arith, e, h)) in
    let small = or_zero_small (place_value b 1) in
    record {
      unentered = λ h. absurd (omega (arith, h, more));
      on_entering = omega (arith, now, charged, before.unentered one, small, ap nat_abs first);
      unlooped = λ h. omega (arith, rounds, before.unlooped two);
      on_rounds = omega (arith, rounds, before.on_rounds);
    }
first_spends start s earlier b e (Entered one two len last at first second) zero_at charged same more before = absurd (omega (arith, at, zero_at))
first_spends start s earlier b e (Looped k one two len last at sum low high second) zero_at charged same more before = absurd (omega (arith, at, zero_at))

-- after one more step by rule 2, a run has spent this much
second_spends : (start : List ℤ) (s : Step) (earlier : List Step) (b : Config) → s.rule ≡ 2 → Looks start earlier b
    → b.at ≡ 1 → step_cost paying start s earlier ≡ or_zero (place_value b 2) → count 1 (s ∷ earlier) ≡ count 1 earlier
    → count 2 (s ∷ earlier) ≡ suc (count 2 earlier) → Spends start earlier → Spends start (s ∷ earlier)
second_spends start s earlier b e (Begun one two len last at first second) one_at charged same more before = absurd (omega (arith, at, one_at))
second_spends start s earlier b e (Entered one two len last at first second) one_at charged same more before =
    let now = spent_more paying 2 start s earlier e in
    let entering = spent_same paying 1 start s earlier (λ h. omega (arith, e, h)) in
    let small = or_zero_small (place_value b 2) in
    record {
      unentered = λ h. omega (arith, entering, before.unentered (omega (arith, h, same)));
      on_entering = omega (arith, entering, before.on_entering);
      unlooped = λ h. absurd (omega (arith, h, more));
      on_rounds = omega (arith, now, charged, before.unlooped two, small, ap nat_abs second);
    }
second_spends start s earlier b e (Looped k one two len last at sum low high second) one_at charged same more before =
    let now = spent_more paying 2 start s earlier e in
    let entering = spent_same paying 1 start s earlier (λ h. omega (arith, e, h)) in
    let nothing = or_zero_below (place_value b 2) (place_value b 1) low second in
    record {
      unentered = λ h. omega (arith, entering, before.unentered (omega (arith, h, same)));
      on_entering = omega (arith, entering, before.on_entering);
      unlooped = λ h. absurd (omega (arith, h, more));
      on_rounds = omega (arith, now, charged, nothing, before.on_rounds);
    }

-- each run of the program with costs has spent this much
pub spends : (start : List ℤ) (steps : List Step) (c : Config) → IsRun paying start steps c → Spends start steps
spends start [] c run = record { unentered = λ h. refl; on_entering = omega arith; unlooped = λ h. refl; on_rounds = omega arith }
spends start (s ∷ earlier) c (b, run, step) =
    let plain = as_countdown start (s ∷ earlier) c (b, run, step) in
    let plain_step_on = later plain in
    go (step_of b s c plain_step_on) (looks start earlier b (as_countdown start earlier b run)) (plain_step b s c plain_step_on) (spends start earlier b run)
  where
    later : IsRun countdown start (s ∷ earlier) c → IsStep countdown b s c
    later whole = step_without paying b s c step

    go : StepOf s.rule b c → Looks start earlier b → (length b.values ≡ 2) × (length s.free ≡ 0) → Spends start earlier
        → Spends start (s ∷ earlier)
    go (ByFirst e h) looks_so (two, none) before =
        let more = more_first s earlier e in
        first_spends start s earlier b e looks_so h.source (charged_first start s earlier b e run two none) more.1 more.0 before
    go (BySecond e h) looks_so (two, none) before =
        let more = more_second s earlier e in
        second_spends start s earlier b e looks_so h.source (charged_second start s earlier b e run two none) more.0 more.1 before

-- the entry spends nothing
entry_spends : (start : List ℤ) (steps : List Step) (c : Config) → IsRun paying start steps c → spent paying 0 start steps ≡ 0
entry_spends start [] c run = refl
entry_spends start (s ∷ earlier) c (b, run, step) =
    omega (arith, spent_same paying 0 start s earlier other, entry_spends start earlier b run)
  where
    other : s.rule ≢ 0
    other e = go s.rule e step.numbered
      where
        go : (t : ℕ) → t ≡ 0 → rule_at paying t ≡ Some step.rule → ⊥
        go zero e h = none_some h
          where
            none_some : None ≡ Some step.rule → ⊥
            none_some x = cc
        go (suc t) e h = omega (arith, e)

-- the run of four steps from l0(3, 7)
pub four_paid : IsRun paying (both (pos 3) (pos 7)) four_steps (two_values 1 (pos 0) (negsuc 0))
four_paid = as_paying (both (pos 3) (pos 7)) four_steps (two_values 1 (pos 0) (negsuc 0)) runs_are_runs.four_steps

-- the run by rule 1 from l0(3, 2)
entered_paid : IsRun paying (both (pos 3) (pos 2)) (by_rule 1 ∷ []) (two_values 1 (pos 3) (pos 2))
entered_paid = as_paying (both (pos 3) (pos 2)) (by_rule 1 ∷ []) (two_values 1 (pos 3) (pos 2)) (entered (pos 3) (pos 2))

-- the worked bounds on what rules spend hold, and those that are too small don't
pub costs_hold : CostsHold
costs_hold = record {
  entering = record { each = λ start steps c run. omega (arith, (spends start steps c run).on_entering, (sizes_of_two start (two_starts start steps c (as_countdown start steps c run))).0) };
  rounds = record { each = λ start steps c run. omega (arith, (spends start steps c run).on_rounds, (sizes_of_two start (two_starts start steps c (as_countdown start steps c run))).1) };
  entry = record { each = λ start steps c run. omega (arith, entry_spends start steps c run) };
  plain = record { each = λ start steps c run. omega (arith, plain_spend.each countdown 2 looping refl refl start steps, loop_nine start steps c (looks start steps c run)) };
  entering_less = λ h. omega (arith, h.each (both (pos 3) (pos 7)) four_steps (two_values 1 (pos 0) (negsuc 0)) four_paid);
  entering_by_other = λ h. omega (arith, h.each (both (pos 3) (pos 2)) (by_rule 1 ∷ []) (two_values 1 (pos 3) (pos 2)) entered_paid);
  rounds_less = λ h. omega (arith, h.each (both (pos 3) (pos 7)) four_steps (two_values 1 (pos 0) (negsuc 0)) four_paid);
  rounds_by_other = λ h. omega (arith, h.each (both (pos 3) (pos 7)) four_steps (two_values 1 (pos 0) (negsuc 0)) four_paid);
  plain_less = λ h. omega (arith, h.each (both (pos 3) (pos 7)) four_steps (two_values 1 (pos 0) (negsuc 0)) runs_are_runs.four_steps);
}
