-- The worked sums, levels, potentials, phases and ranks hold.
use Rattle.std.proofs.Common.{◌≡◌, ◌⊎◌, inl, inr, ℕ, zero, suc, ◌*◌, ◌<◌, ◌≤◌, ◌==◌, Bool, true, false, List, [], ◌∷◌, ◌++◌}
use Rattle.std.proofs.Common.{refl, sym, ◌∙◌, ap, subst, arith, length, Some, mul-le-mul}
use Rattle.std.proofs.Math.Nat.{max-le}
use Rattle.std.specs.Prelude.{ℤ, pos, negsuc, ◌+ℤ◌, ◌-ℤ◌, ◌*ℤ◌, ◌≤ℤ◌, if◌then◌else◌}
use Rattle.std.proofs.lemmas.Int.{ints}
use Rattle.std.proofs.lemmas.Bool.{cases_lt, true≢false}
use Rattle.run_counting.specs.model.Spending.{or_zero}
use Rattle.run_counting.specs.model.Runs.{Config, Step, IsRun, IsStep, Leads}
use Rattle.run_counting.specs.model.Worked.{by_rule, two_values}
use Rattle.run_counting.specs.model.Programs.{Rule, rule_at}
use Rattle.run_counting.specs.model.WorkedRuns.{entering, looping, countdown, both}
use Rattle.run_counting.proofs.model.Membership.{same_number-sound}
use Rattle.run_counting.proofs.model.Cases.{none_some, some_same}
use Rattle.run_counting.proofs.model.WorkedRuns.{step_in, loops_at, loop_low}
use Rattle.potentials.specs.Sums.{once_for, HoldsSum, HoldsPeak}
use Rattle.potentials.specs.Potentials.{Keeps, Resets, payments, gains, kept_gains, IsTaken, Pays, Covers}
use Rattle.potentials.specs.Phases.{FallsInPhases}
use Rattle.potentials.specs.Worked.{value_a, kept_a, each_round, phases_a, SumsAreWorkedOut, LevelsAreWorkedOut}
use Rattle.potentials.specs.Worked.{PotentialsAreWorkedOut, FactsAreWorkedOut, QuotientsAndRoots, PhasesAreWorkedOut, WorkedRanksHold}
use Rattle.potentials.proofs.SumLaws.{zero-sum}
use Rattle.potentials.proofs.NodeLaws.{falls, peaks, parts}

pub sums_worked : SumsAreWorkedOut
sums_worked = record {
  rounds = refl;
  negative = refl;
  together = refl;
  other = refl;
  nothing = refl;
  steps = refl;
  costs = refl;
  costs_of_rounds = refl;
}

pub levels_worked : LevelsAreWorkedOut
levels_worked = record { there = refl; negative = refl; none = refl }

-- from l0(1, 7) rule 1 leads to l1(1, 7), and the first round from there to l1(0, -1)
entry_run : IsRun countdown (both (pos 1) (pos 7)) (by_rule 1 ∷ []) (two_values 1 (pos 1) (pos 7))
entry_run = (two_values 0 (pos 1) (pos 7), record { places = refl; at = refl; values = refl }, step_in (pos 1) (pos 7))

round_step : IsStep countdown (two_values 1 (pos 1) (pos 7)) (by_rule 2) (two_values 1 (pos 0) (negsuc 0))
round_step = loops_at (pos 1) (pos 7) (pos 0) (negsuc 0) (omega (arith, ints)) (omega (arith, ints)) refl

round_taken : IsTaken countdown (both (pos 1) (pos 7)) (two_values 1 (pos 1) (pos 7)) (by_rule 2) (two_values 1 (pos 0) (negsuc 0))
round_taken = record { earlier = by_rule 1 ∷ []; run = entry_run; step = round_step }

entry_taken : IsTaken countdown (both (pos 1) (pos 7)) (two_values 0 (pos 1) (pos 7)) (by_rule 1) (two_values 1 (pos 1) (pos 7))
entry_taken = record {
  earlier = [];
  run = record { places = refl; at = refl; values = refl };
  step = step_in (pos 1) (pos 7);
}

round_run : IsRun countdown (both (pos 1) (pos 7)) (by_rule 2 ∷ by_rule 1 ∷ []) (two_values 1 (pos 0) (negsuc 0))
round_run = (two_values 1 (pos 1) (pos 7), entry_run, round_step)

-- a step leaves a configuration with two values
two-left : (c : Config) (s : Step) (d : Config) → IsStep countdown c s d → length c.values ≡ 2
two-left c s d step = go s.rule step.rule step.numbered step.leads.left
  where
    go : (t : ℕ) (r : Rule) → rule_at countdown t ≡ Some r → length c.values ≡ r.left → length c.values ≡ 2
    go zero r e l = absurd (none_some r e)
    go (suc zero) r e l = l ∙ ap (λ (q : Rule). q.left) (sym (some_same entering r e))
    go (suc (suc zero)) r e l = l ∙ ap (λ (q : Rule). q.left) (sym (some_same looping r e))
    go (suc (suc (suc t))) r e l = absurd (none_some r e)

-- A is the first value of a configuration, whatever the free values
free_a : (c : Config) (s : Step) (d : Config) → IsStep countdown c s d → value_a (c.values ++ s.free) ≡ value_a c.values
free_a c s d step = go c.values (two-left c s d step)
  where
    go : (values : List ℤ) → length values ≡ 2 → value_a (values ++ s.free) ≡ value_a values
    go [] e = absurd (omega (arith, e))
    go (x ∷ xs) e = refl

-- the effect of a step on A: rule 1 keeps A, and rule 2, before which A is at least 1, lowers it by 1
abbrev Does : Config → Step → Config → Type 0
Does c s d = (s.rule ≡ 1) × (value_a d.values ≡ value_a c.values)
    ⊎ (s.rule ≡ 2) × (pos 1 ≤ℤ value_a c.values) × (value_a d.values ≡ value_a c.values -ℤ pos 1)

does : (c : Config) (s : Step) (d : Config) → IsStep countdown c s d → Does c s d
does c s d step = go s.rule refl step.rule step.numbered step.leads
  where
    free : value_a (c.values ++ s.free) ≡ value_a c.values
    free = free_a c s d step

    go : (t : ℕ) → s.rule ≡ t → (r : Rule) → rule_at countdown t ≡ Some r → Leads r c s.free d → Does c s d
    go zero e r found leads = absurd (none_some r found)
    go (suc zero) e r found leads =
        let is = sym (some_same entering r found) in
        let here = subst (λ (q : Rule). Leads q c s.free d) is leads in
        inl (e, ap value_a here.values ∙ free)
    go (suc (suc zero)) e r found leads =
        let is = sym (some_same looping r found) in
        let here = subst (λ (q : Rule). Leads q c s.free d) is leads in
        let low = loop_low (c.values ++ s.free) here.guard in
        inr (
          e,
          subst (λ (z : ℤ). pos 1 ≤ℤ z) free low,
          ap value_a here.values ∙ ap (λ (z : ℤ). z -ℤ pos 1) free,
        )
    go (suc (suc (suc t))) e r found leads = absurd (none_some r found)

-- each step keeps A, and rule 2 lowers it by 1
falls-by : (c : Config) (s : Step) (d : Config) → Does c s d
    → (value_a d.values +ℤ pos 1 *ℤ (if s.rule == 2 then pos 1 else pos 0)) ≤ℤ (value_a c.values +ℤ pos 0)
falls-by c s d (inl (e, same_a)) =
    subst (λ (t : ℕ). (value_a d.values +ℤ pos 1 *ℤ (if t == 2 then pos 1 else pos 0)) ≤ℤ (value_a c.values +ℤ pos 0)) (sym e)
    (same (value_a d.values) (value_a c.values) same_a)
  where
    same : (x y : ℤ) → x ≡ y → (x +ℤ pos 1 *ℤ pos 0) ≤ℤ (y +ℤ pos 0)
    same x y e = omega (arith, ints, e)
falls-by c s d (inr (e, low_a, less_a)) =
    subst (λ (t : ℕ). (value_a d.values +ℤ pos 1 *ℤ (if t == 2 then pos 1 else pos 0)) ≤ℤ (value_a c.values +ℤ pos 0)) (sym e)
    (less (value_a d.values) (value_a c.values) less_a)
  where
    less : (x y : ℤ) → x ≡ y -ℤ pos 1 → (x +ℤ pos 1 *ℤ pos 1) ≤ℤ (y +ℤ pos 0)
    less x y e = omega (arith, ints, e)

-- before a step by rule 2 A is at least 1
low-before : (c : Config) (s : Step) (d : Config) → Does c s d → s.rule ≡ 2 → pos 1 ≤ℤ value_a c.values
low-before c s d (inl (e, same_a)) two = absurd (omega (arith, e, two))
low-before c s d (inr (e, low_a, less_a)) two = low_a

-- one times a value is the value
one_time : (x y : ℤ) → x ≤ℤ y → (pos 1 *ℤ x) ≤ℤ y
one_time x y h = omega (arith, ints, h)

-- A pays 1 for each round
a-pays : (start : List ℤ) → Pays countdown start (kept_a (λ s. true)) 1 (each_round (pos 1))
a-pays start = record {
  moves = record {
    each = λ c s d step has. record { source = refl; falls = falls-by c s d (does c s d step.step) };
  };
  each = λ c s d step paid. record {
    source = refl;
    floor = one_time (pos 1) (value_a c.values) (low-before c s d (does c s d step.step) (same_number-sound s.rule 2 paid));
    amount = λ keeps has. omega (arith, ints);
  };
}

-- A covers A at each round
a-covers : (start : List ℤ) → Covers countdown start (kept_a (λ s. true)) 1 2 value_a
a-covers start = record {
  moves = record {
    each = λ c s d step has. record { source = refl; falls = keeps c s d (does c s d step.step) };
  };
  each = λ c s d step same. record {
    source = refl;
    floor = one_time (value_a (c.values ++ s.free)) (value_a c.values) (equal (value_a (c.values ++ s.free)) (value_a c.values) (free_a c s d step.step));
  };
}
  where
    equal : (x y : ℤ) → x ≡ y → x ≤ℤ y
    equal x y e = omega (arith, ints)

    keeps : (c : Config) (s : Step) (d : Config) → Does c s d
        → (value_a d.values +ℤ pos 1 *ℤ pos 0) ≤ℤ (value_a c.values +ℤ pos 0)
    keeps c s d (inl (e, same_a)) = kept (value_a d.values) (value_a c.values) same_a
      where
        kept : (x y : ℤ) → x ≡ y → (x +ℤ pos 1 *ℤ pos 0) ≤ℤ (y +ℤ pos 0)
        kept x y e = omega (arith, ints, e)
    keeps c s d (inr (e, low_a, less_a)) = less (value_a d.values) (value_a c.values) less_a
      where
        less : (x y : ℤ) → x ≡ y -ℤ pos 1 → (x +ℤ pos 1 *ℤ pos 0) ≤ℤ (y +ℤ pos 0)
        less x y e = omega (arith, ints, e)

pub potentials_worked : PotentialsAreWorkedOut
potentials_worked = record {
  pays = a-pays;
  pays_not_two = λ h. let payment = h.each _ _ _ round_taken refl in
      let floor = payment.floor in omega (arith, ints, floor);
  pays_not_at_once = λ h. let move = h.moves.each _ _ _ entry_taken refl in true≢false (sym move.source);
  covers = a-covers;
  covers_no_more = λ h. let covered = h.each _ _ _ round_taken refl in
      let floor = covered.floor in omega (arith, ints, floor);
}

-- the gains are 0
no-gains : (has : ℕ → Bool) → HoldsSum countdown (gains (kept_a has)) (λ start. 0)
no-gains has = zero-sum countdown (gains (kept_a has)) (λ t env. refl)

-- the number of rounds is at most the positive part of A at the start
rounds-bounded : HoldsSum countdown (once_for 2) (λ start. or_zero (value_a start))
rounds-bounded =
    let paid = falls countdown (kept_a (λ s. true)) 1 (each_round (pos 1)) (λ start. 0) (λ start. or_zero (value_a start)) a-pays
    (no-gains (λ s. true)) (record { each = λ start n low. omega (arith, low) }) in
    parts countdown (once_for 2) (payments (each_round (pos 1))) (λ start. or_zero (value_a start)) counted paid
  where
    counted : (t : ℕ) (env : List ℤ) → once_for 2 t env ≤ payments (each_round (pos 1)) t env
    counted t env = go (t == 2) refl
      where
        go : (v : Bool) → (t == 2) ≡ v → once_for 2 t env ≤ payments (each_round (pos 1)) t env
        go true e = rw e (omega arith)
        go false e = rw e (omega arith)

-- A is at most its positive part at the start, at each round
a-bounded : HoldsPeak countdown 2 value_a (λ start. or_zero (value_a start))
a-bounded =
    peaks countdown (kept_a (λ s. true)) 1 2 value_a (λ start. 0) (λ start. 0) (λ start. or_zero (value_a start)) (omega arith)
    a-covers (record { each = λ t resets. absurd (keeps_resets resets) })
    (zero-sum countdown (kept_gains (kept_a (λ s. true))) (λ t env. refl))
    (record { each = λ start n low. let most = max-le {a = or_zero (value_a start)} {b = 0} {k = or_zero (value_a start)} (omega arith) (omega arith) in omega (arith, low, most) })
  where
    keeps_resets : Keeps ≡ Resets → ⊥
    keeps_resets e = cc

pub facts_worked : FactsAreWorkedOut
facts_worked = record {
  sum = rounds-bounded;
  no_less = λ h. let sum = h.each (both (pos 1) (pos 7)) (by_rule 2 ∷ by_rule 1 ∷ []) (two_values 1 (pos 0) (negsuc 0)) round_run in
      omega (arith, sum);
  peak = a-bounded;
  no_lower = λ h. let peak = h.each (both (pos 1) (pos 7)) (by_rule 2) (by_rule 1 ∷ []) (two_values 1 (pos 0) (negsuc 0)) round_run refl in
      omega (arith, ints, peak);
}

pub quotients_worked : QuotientsAndRoots
quotients_worked = record {
  quotient = record { each = λ start n low. omega (arith, low) };
  no_quotient = λ h. let three = h.each [] 3 (omega arith) in omega (arith, three);
  root = record { each = root };
  no_root = λ h. let four = h.each 4 (omega arith) in omega (arith, four);
}
  where
    root : (e : ℕ) → e * e ≤ 15 → e ≤ 3
    root e low = go (cases_lt 3 e)
      where
        go : (3 < e) ⊎ (e ≤ 3) → e ≤ 3
        go (inl above) =
            let four : 4 ≤ e = omega (arith, above) in
            let square : 4 * 4 ≤ e * e = mul-le-mul four four in absurd (omega (arith, low, square))
        go (inr below) = below

-- each step goes in the worked phases
goes-by : (c : Config) (s : Step) (d : Config) → Does c s d → FallsInPhases phases_a 1 c s d
goes-by c s d (inl (e, same_a)) = record {
  source = refl;
  first = subst (λ (t : ℕ). (value_a d.values +ℤ (if t == 2 then pos 1 else pos 0)) ≤ℤ value_a c.values) (sym e) (one _ _ same_a);
  second = subst (λ (t : ℕ). (value_a d.values +ℤ (if t == 2 then pos 1 else pos 0)) ≤ℤ (value_a c.values +ℤ (if t == 2 then value_a c.values else pos 0))) (sym e) (two _ _ same_a);
}
  where
    one : (x y : ℤ) → x ≡ y → (x +ℤ pos 0) ≤ℤ y
    one x y e = omega (arith, ints, e)

    two : (x y : ℤ) → x ≡ y → (x +ℤ pos 0) ≤ℤ (y +ℤ pos 0)
    two x y e = omega (arith, ints, e)
goes-by c s d (inr (e, low_a, less_a)) = record {
  source = refl;
  first = subst (λ (t : ℕ). (value_a d.values +ℤ (if t == 2 then pos 1 else pos 0)) ≤ℤ value_a c.values) (sym e) (one _ _ less_a);
  second = subst (λ (t : ℕ). (value_a d.values +ℤ (if t == 2 then pos 1 else pos 0)) ≤ℤ (value_a c.values +ℤ (if t == 2 then value_a c.values else pos 0))) (sym e) (two _ _ less_a low_a);
}
  where
    one : (x y : ℤ) → x ≡ y -ℤ pos 1 → (x +ℤ pos 1) ≤ℤ y
    one x y e = omega (arith, ints, e)

    two : (x y : ℤ) → x ≡ y -ℤ pos 1 → pos 1 ≤ℤ y → (x +ℤ pos 1) ≤ℤ (y +ℤ y)
    two x y e low = omega (arith, ints, e, low)

pub phases_worked : PhasesAreWorkedOut
phases_worked = record {
  goes = λ start. record {
    moves = λ c s d step has. goes-by c s d (does c s d step.step);
    floors = λ c s d step counted. record {
      source = refl;
      floor = low-before c s d (does c s d step.step) (same_number-sound s.rule 2 counted);
    };
  };
  goes_not_by_two = λ h. let move = h.moves _ _ _ round_taken refl in
      let first = move.first in omega (arith, ints, first);
}

pub ranks_worked : WorkedRanksHold
ranks_worked = record {
  ranks = record {
    rule = λ e. omega (arith, e);
    member = refl;
    begins = omega arith;
    leaves = λ c s d step member. refl;
    keeps = λ c s d step member has. keeps c s d (does c s d step.step);
    falls = λ c s d step same has. lowers c s d (does c s d step.step) same;
    floor = λ c s d step same. low-before c s d (does c s d step.step) same;
    enters = λ c s d step member has. absurd (true≢false member);
  };
  ranks_not_with_two = λ h. let begins = h.begins in omega (arith, begins);
}
  where
    keeps : (c : Config) (s : Step) (d : Config) → Does c s d → value_a d.values ≤ℤ value_a c.values
    keeps c s d (inl (e, same_a)) = equal (value_a d.values) (value_a c.values) same_a
      where
        equal : (x y : ℤ) → x ≡ y → x ≤ℤ y
        equal x y e = omega (arith, ints)
    keeps c s d (inr (e, low_a, less_a)) = less (value_a d.values) (value_a c.values) less_a
      where
        less : (x y : ℤ) → x ≡ y -ℤ pos 1 → x ≤ℤ y
        less x y e = omega (arith, ints, e)

    lowers : (c : Config) (s : Step) (d : Config) → Does c s d → s.rule ≡ 2
        → (value_a d.values +ℤ pos 1) ≤ℤ value_a c.values
    lowers c s d (inl (e, same_a)) two = absurd (omega (arith, e, two))
    lowers c s d (inr (e, low_a, less_a)) two = less (value_a d.values) (value_a c.values) less_a
      where
        less : (x y : ℤ) → x ≡ y -ℤ pos 1 → (x +ℤ pos 1) ≤ℤ y
        less x y e = omega (arith, ints, e)
