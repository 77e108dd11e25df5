-- The form of each run of the program with the loop: how often its rules occur, and its values.
use Rattle.std.proofs.Common.{◌≡◌, ℕ, zero, suc, ◌≤◌, List, [], ◌∷◌, ◌++◌, length, ℤ, pos, ◌≤ℤ◌, ◌+ℤ◌, ◌-ℤ◌, neg_ℤ}
use Rattle.std.proofs.Common.{nat_abs, Some, None, refl, sym, ◌∙◌, ap, subst, arith}
use Rattle.std.specs.Prelude.{slice_index, slice_index_or}
use Rattle.std.proofs.lemmas.Int.{ints}
use Rattle.model.specs.Programs.{Rule, rule_at}
use Rattle.model.specs.Runs.{Config, Step, Leads, IsStep, IsRun, count, last_rule, place_value, sizes_of_start}
use Rattle.model.specs.WorkedRuns.{entering, looping, countdown}
use Rattle.model.proofs.RunLaws.{one_if_same-same, one_if_same-other}
use Rattle.model.proofs.WorkedRuns.{loop_low, loop_high}

-- the value at a position of a list
abbrev pub value_at : List ℤ → ℕ → ℤ
value_at values i = slice_index_or values i (pos 0)

-- if there are no free values, the first two values of the step are those of the configuration
pub without_free : (vs fs : List ℤ) → length vs ≡ 2 → length fs ≡ 0
    → (value_at (vs ++ fs) 0 ≡ value_at vs 0) × (value_at (vs ++ fs) 1 ≡ value_at vs 1)
without_free (x ∷ y ∷ []) [] two none = (refl, refl)
without_free [] fs two none = absurd (omega (arith, two))
without_free (x ∷ []) fs two none = absurd (omega (arith, two))
without_free (x ∷ y ∷ z ∷ vs) fs two none = absurd (omega (arith, two))
without_free (x ∷ y ∷ []) (f ∷ fs) two none = absurd (omega (arith, none))

-- the effect of rule 1: it leads from l0 to l1 and changes neither value
pub record Enters (b c : Config) : Type 0 where
  pub source : b.at ≡ 0
  target : c.at ≡ 1
  first : place_value c 1 ≡ place_value b 1
  second : place_value c 2 ≡ place_value b 2

-- a step by rule 1 has this effect
pub enters_so : (b c : Config) (free : List ℤ) → Leads entering b free c → Enters b c
enters_so b c free h =
    let same = without_free b.values free h.left h.free_ones in
    record {
      source = h.source;
      target = h.target;
      first = ap (λ (v : List ℤ). value_at v 0) h.values ∙ same.0;
      second = ap (λ (v : List ℤ). value_at v 1) h.values ∙ same.1;
    }

-- the effect of rule 2: it leads from l1 to l1 if A is from 1 to 9, and the new values are A - 1 and -A
pub record Loops (b c : Config) : Type 0 where
  pub source : b.at ≡ 1
  target : c.at ≡ 1
  low : pos 1 ≤ℤ place_value b 1
  high : place_value b 1 ≤ℤ pos 9
  first : place_value c 1 ≡ place_value b 1 -ℤ pos 1
  second : place_value c 2 ≡ neg_ℤ (place_value b 1)

-- a step by rule 2 has this effect
pub loops_so : (b c : Config) (free : List ℤ) → Leads looping b free c → Loops b c
loops_so b c free h =
    let same = without_free b.values free h.left h.free_ones in
    record {
      source = h.source;
      target = h.target;
      low = subst (λ (a : ℤ). pos 1 ≤ℤ a) same.0 (loop_low (b.values ++ free) h.guard);
      high = subst (λ (a : ℤ). a ≤ℤ pos 9) same.0 (loop_high (b.values ++ free) h.guard);
      first = ap (λ (v : List ℤ). value_at v 0) h.values ∙ ap (λ (a : ℤ). a -ℤ pos 1) same.0;
      second = ap (λ (v : List ℤ). value_at v 1) h.values ∙ ap neg_ℤ same.0;
    }

-- a step of the program with the loop is by rule 1 or by rule 2, and has the rule's effect
pub data StepOf (t : ℕ) (b c : Config) : Type 0 where
  ByFirst : t ≡ 1 → Enters b c → StepOf t b c
  BySecond : t ≡ 2 → Loops b c → StepOf t b c

-- each step of the program is such a step
pub step_of : (b : Config) (s : Step) (c : Config) → IsStep countdown b s c → StepOf s.rule b c
step_of b s c h = go s.rule h.rule h.numbered h.leads
  where
    go : (t : ℕ) (r : Rule) → rule_at countdown t ≡ Some r → Leads r b s.free c → StepOf t b c
    go zero r e l = absurd (none_some e)
      where
        none_some : None ≡ Some r → ⊥
        none_some x = cc
    go (suc zero) r e l = let same : entering ≡ r = cc in ByFirst refl (enters_so b c s.free (subst (λ (q : Rule). Leads q b s.free c) (sym same) l))
    go (suc (suc zero)) r e l = let same : looping ≡ r = cc in BySecond refl (loops_so b c s.free (subst (λ (q : Rule). Leads q b s.free c) (sym same) l))
    go (suc (suc (suc t))) r e l = absurd (none_some e)
      where
        none_some : None ≡ Some r → ⊥
        none_some x = cc

-- the form of a run of the program with the loop
pub data Looks (start : List ℤ) (steps : List Step) (c : Config) : Type 0 where
  -- without a step, the run is at l0 with the start values
  Begun : count 1 steps ≡ 0 → count 2 steps ≡ 0 → length steps ≡ 0 → last_rule steps ≡ 0 → c.at ≡ 0
      → place_value c 1 ≡ value_at start 0 → place_value c 2 ≡ value_at start 1 → Looks start steps c
  -- after rule 1, the run is at l1 with the start values
  Entered : count 1 steps ≡ 1 → count 2 steps ≡ 0 → length steps ≡ 1 → last_rule steps ≡ 1 → c.at ≡ 1
      → place_value c 1 ≡ value_at start 0 → place_value c 2 ≡ value_at start 1 → Looks start steps c
  -- after k + 1 steps by rule 2, A is smaller than at the start by k + 1, and is from 0 to 9 - (k + 1)
  Looped : (k : ℕ) → count 1 steps ≡ 1 → count 2 steps ≡ suc k → length steps ≡ suc (suc k) → last_rule steps ≡ 2
      → c.at ≡ 1
      → place_value c 1 +ℤ pos (suc k) ≡ value_at start 0 → pos 0 ≤ℤ place_value c 1 → (place_value c 1 +ℤ pos (suc k)) ≤ℤ pos 9
      → place_value c 2 ≡ neg_ℤ (place_value c 1 +ℤ pos 1) → Looks start steps c

-- one more step by rule 1 adds an occurrence of rule 1 and none of rule 2
pub more_first : (s : Step) (steps : List Step) → s.rule ≡ 1
    → (count 1 (s ∷ steps) ≡ suc (count 1 steps)) × (count 2 (s ∷ steps) ≡ count 2 steps)
more_first s steps e = (omega (arith, one_if_same-same s.rule 1 e), omega (arith, one_if_same-other s.rule 2 (λ h. omega (arith, e, h))))

-- one more step by rule 2 adds an occurrence of rule 2 and none of rule 1
pub more_second : (s : Step) (steps : List Step) → s.rule ≡ 2
    → (count 1 (s ∷ steps) ≡ count 1 steps) × (count 2 (s ∷ steps) ≡ suc (count 2 steps))
more_second s steps e = (omega (arith, one_if_same-other s.rule 1 (λ h. omega (arith, e, h))), omega (arith, one_if_same-same s.rule 2 e))

-- a run of this form with one more step has this form
pub looks_on : (start : List ℤ) (steps : List Step) (b c : Config) (s : Step) → Looks start steps b → StepOf s.rule b c
    → Looks start (s ∷ steps) c
looks_on start steps b c s (Begun one two len last at first second) (ByFirst e h) =
    let more = more_first s steps e in
    Entered (omega (arith, more.0, one)) (omega (arith, more.1, two)) (omega (arith, len)) e h.target (h.first ∙ first) (h.second ∙ second)
looks_on start steps b c s (Begun one two len last at first second) (BySecond e h) = absurd (omega (arith, at, h.source))
looks_on start steps b c s (Entered one two len last at first second) (ByFirst e h) = absurd (omega (arith, at, h.source))
looks_on start steps b c s (Entered one two len last at first second) (BySecond e h) =
    let more = more_second s steps e in
    Looped 0 (omega (arith, more.0, one)) (omega (arith, more.1, two)) (omega (arith, len)) e h.target
    (omega (arith, ints, h.first, first)) (omega (arith, ints, h.first, h.low)) (omega (arith, ints, h.first, h.high)) (omega (arith, ints, h.first, h.second))
looks_on start steps b c s (Looped k one two len last at sum low high second) (ByFirst e h) = absurd (omega (arith, at, h.source))
looks_on start steps b c s (Looped k one two len last at sum low high second) (BySecond e h) =
    let more = more_second s steps e in
    Looped (suc k) (omega (arith, more.0, one)) (omega (arith, more.1, two)) (omega (arith, len)) e h.target
    (omega (arith, ints, h.first, sum)) (omega (arith, ints, h.first, h.low)) (omega (arith, ints, h.first, high)) (omega (arith, ints, h.first, h.second))

-- each run has this form
pub looks : (start : List ℤ) (steps : List Step) (c : Config) → IsRun countdown start steps c → Looks start steps c
looks start [] c run = Begun refl refl refl refl run.at (ap (λ (v : List ℤ). value_at v 0) run.values) (ap (λ (v : List ℤ). value_at v 1) run.values)
looks start (s ∷ earlier) c (b, run, step) = looks_on start earlier b c s (looks start earlier b run) (step_of b s c step)

-- a run begins with two values
pub two_starts : (start : List ℤ) (steps : List Step) (c : Config) → IsRun countdown start steps c → length start ≡ 2
two_starts start [] c run = run.places
two_starts start (s ∷ earlier) c (b, run, step) = two_starts start earlier b run

-- the sizes of two start values
pub sizes_of_two : (start : List ℤ) → length start ≡ 2
    → (slice_index (sizes_of_start start) 0 ≡ nat_abs (value_at start 0)) × (slice_index (sizes_of_start start) 1 ≡ nat_abs (value_at start 1))
sizes_of_two (x ∷ y ∷ []) two = (refl, refl)
sizes_of_two [] two = absurd (omega (arith, two))
sizes_of_two (x ∷ []) two = absurd (omega (arith, two))
sizes_of_two (x ∷ y ∷ z ∷ start) two = absurd (omega (arith, two))

-- rule 1 occurs at most once
pub first_once : (start : List ℤ) (steps : List Step) (c : Config) → Looks start steps c → count 1 steps ≤ 1
first_once start steps c (Begun one two len last at first second) = omega (arith, one)
first_once start steps c (Entered one two len last at first second) = omega (arith, one)
first_once start steps c (Looped k one two len last at sum low high second) = omega (arith, one)

-- rule 2 occurs at most 9 times
pub loop_nine : (start : List ℤ) (steps : List Step) (c : Config) → Looks start steps c → count 2 steps ≤ 9
loop_nine start steps c (Begun one two len last at first second) = omega (arith, two)
loop_nine start steps c (Entered one two len last at first second) = omega (arith, two)
loop_nine start steps c (Looped k one two len last at sum low high second) = omega (arith, ints, two, low, high)

-- rule 2 occurs at most as often as the absolute value of A
pub loop_start : (start : List ℤ) (steps : List Step) (c : Config) → Looks start steps c
    → count 2 steps ≤ nat_abs (value_at start 0)
loop_start start steps c (Begun one two len last at first second) = omega (arith, two)
loop_start start steps c (Entered one two len last at first second) = omega (arith, two)
loop_start start steps c (Looped k one two len last at sum low high second) = omega (arith, ints, two, low, sum)

-- a run has at most 10 steps
pub ten_steps : (start : List ℤ) (steps : List Step) (c : Config) → Looks start steps c → length steps ≤ 10
ten_steps start steps c (Begun one two len last at first second) = omega (arith, len)
ten_steps start steps c (Entered one two len last at first second) = omega (arith, len)
ten_steps start steps c (Looped k one two len last at sum low high second) = omega (arith, ints, len, low, high)

-- rule 3, which doesn't exist, never occurs
pub third_never : (start : List ℤ) (steps : List Step) (c : Config) → IsRun countdown start steps c → count 3 steps ≡ 0
third_never start [] c run = refl
third_never start (s ∷ earlier) c (b, run, step) = go (step_of b s c step) (third_never start earlier b run)
  where
    go : StepOf s.rule b c → count 3 earlier ≡ 0 → count 3 (s ∷ earlier) ≡ 0
    go (ByFirst e h) before = omega (arith, one_if_same-other s.rule 3 (λ k. omega (arith, e, k)), before)
    go (BySecond e h) before = omega (arith, one_if_same-other s.rule 3 (λ k. omega (arith, e, k)), before)

-- in a run without a step the absolute values at both places are those of the start values
pub begun_sizes : (start : List ℤ) (steps : List Step) (c : Config) → Looks start steps c → last_rule steps ≡ 0
    → (place_value c 1 ≡ value_at start 0) × (place_value c 2 ≡ value_at start 1)
begun_sizes start steps c (Begun one two len last at first second) e = (first, second)
begun_sizes start steps c (Entered one two len last at first second) e = absurd (omega (arith, last, e))
begun_sizes start steps c (Looped k one two len last at sum low high second) e = absurd (omega (arith, last, e))

-- after rule 1 the absolute values at both places are those of the start values
pub entered_sizes : (start : List ℤ) (steps : List Step) (c : Config) → Looks start steps c → last_rule steps ≡ 1
    → (place_value c 1 ≡ value_at start 0) × (place_value c 2 ≡ value_at start 1)
entered_sizes start steps c (Begun one two len last at first second) e = absurd (omega (arith, last, e))
entered_sizes start steps c (Entered one two len last at first second) e = (first, second)
entered_sizes start steps c (Looped k one two len last at sum low high second) e = absurd (omega (arith, last, e))

-- after rule 2 the absolute values at the places are at most 8 and 9
pub looped_sizes : (start : List ℤ) (steps : List Step) (c : Config) → Looks start steps c → last_rule steps ≡ 2
    → (nat_abs (place_value c 1) ≤ 8) × (nat_abs (place_value c 2) ≤ 9)
looped_sizes start steps c (Begun one two len last at first second) e = absurd (omega (arith, last, e))
looped_sizes start steps c (Entered one two len last at first second) e = absurd (omega (arith, last, e))
looped_sizes start steps c (Looped k one two len last at sum low high second) e = (omega (arith, ints, low, high), omega (arith, ints, low, high, second))
