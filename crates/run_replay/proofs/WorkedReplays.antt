-- Proofs of the worked values of replays.
use Rattle.std.proofs.Common.{◌≡◌, ◌⊎◌, inl, inr, ℕ, suc, ◌≤◌, List, [], ◌∷◌, ◌++◌, length, map, ℤ, pos, negsuc, Some, None, refl, ap, arith}
use Rattle.its_model.specs.model.Terms.{Term, value}
use Rattle.its_model.specs.model.Programs.{Program, Rule, rule_at}
use Rattle.its_model.specs.model.Runs.{Config, Step, count}
use Rattle.its_model.specs.model.Worked.{by_rule, two_values, four_steps}
use Rattle.its_model.specs.model.WorkedRuns.{countdown, both, entering, looping}
use Rattle.its_model.specs.Steps.{StepFault, OtherRule, AtomFails, PastRange}
use Rattle.its_model.specs.WorkedSteps.{maximum, minimum, A, one_more}
use Rattle.run_replay.specs.Replays.{replay_fault, RunsInRange, BadStep, IsFirstBadStep, IsGreatest, IsSizeAfter}
use Rattle.run_replay.specs.WorkedReplays.{five_steps, with_zero, counting_up, comparing, comparing_at_cost, IsFirst, TalliesAreWorkedOut}
use Rattle.run_replay.specs.WorkedReplays.{swapping_at_cost, GreatestAreWorkedOut, CostsAreTallied, BadStepsAreWorkedOut}
use Rattle.run_replay.specs.WorkedReplays.{ReplaysAreWorkedOut}
use Rattle.run_replay.proofs.ReplayFaults.{ReplayStepsHaveNoFault}
use Rattle.run_replay.proofs.ReplayRuns.{next_runs, none_bad, one_bad}
use Rattle.run_replay.proofs.ReplayLaws.{replays_decided}

-- the worked values of the tallies hold
tallies_worked : TalliesAreWorkedOut
tallies_worked = record { four = refl; one = refl; none = refl; below_zero = refl }

-- the worked values of the costs hold
costs_tallied : CostsAreTallied
costs_tallied = record {
  paying = refl;
  before_the_step = refl;
  both_steps = refl;
  negative = refl;
  at_most = refl;
  at_the_cap = refl;
  beyond = refl;
}

-- a run in range with one more step that has no fault is a run in range
more : ReplayStepsHaveNoFault → (p : Program) (start : List ℤ) (earlier : List Step) (c : Config) (s : Step) (r : Rule)
    → RunsInRange p start earlier c → rule_at p s.rule ≡ Some r → length c.values ≡ r.left → replay_fault p c s ≡ None
    → RunsInRange p start (s ∷ earlier)
    (record { at = r.target; values = map (λ u. value u (c.values ++ s.free)) r.updates })
more law p start earlier c s r h e l none =
    next_runs law p start earlier c s (record { at = r.target; values = map (λ u. value u (c.values ++ s.free)) r.updates })
    h (law.step p c s r e l none) none

-- a step after a run in range that has a fault is the first bad one, whatever steps follow
bad_behind : (p : Program) (start : List ℤ) (later : List Step) (s : Step) (earlier : List Step) (c : Config)
    (f : StepFault) → RunsInRange p start earlier c → replay_fault p c s ≡ Some f
    → IsFirstBadStep p start (later ++ s ∷ earlier) (record { number = suc (length earlier); fault = f })
bad_behind p start later s earlier c f h e = record {
  later = later;
  step = s;
  earlier = earlier;
  order = refl;
  number = refl;
  end = c;
  runs = h;
  fault = e;
}

-- the start of the program that decreases A, and its runs from l0(3, 7) after each of four steps
begun : (a b : ℤ) → RunsInRange countdown (both a b) [] (two_values 0 a b)
begun a b = record { run = record { places = refl; at = refl; values = refl }; fit = tt }

entered : ReplayStepsHaveNoFault → (a b : ℤ) → replay_fault countdown (two_values 0 a b) (by_rule 1) ≡ None
    → RunsInRange countdown (both a b) (by_rule 1 ∷ []) (two_values 1 a b)
entered law a b none =
    more law countdown (both a b) [] (two_values 0 a b) (by_rule 1) entering (begun a b) refl refl none

once : ReplayStepsHaveNoFault
    → RunsInRange countdown (both (pos 3) (pos 7)) (by_rule 2 ∷ by_rule 1 ∷ []) (two_values 1 (pos 2) (negsuc 2))
once law =
    more law countdown (both (pos 3) (pos 7)) (by_rule 1 ∷ []) (two_values 1 (pos 3) (pos 7)) (by_rule 2) looping
    (entered law (pos 3) (pos 7) refl) refl refl refl

twice : ReplayStepsHaveNoFault → RunsInRange countdown (both (pos 3) (pos 7)) (by_rule 2 ∷ by_rule 2 ∷ by_rule 1 ∷ [])
    (two_values 1 (pos 1) (negsuc 1))
twice law =
    more law countdown (both (pos 3) (pos 7)) (by_rule 2 ∷ by_rule 1 ∷ []) (two_values 1 (pos 2) (negsuc 2)) (by_rule 2)
    looping (once law) refl refl refl

thrice : ReplayStepsHaveNoFault → RunsInRange countdown (both (pos 3) (pos 7)) four_steps (two_values 1 (pos 0) (negsuc 0))
thrice law =
    more law countdown (both (pos 3) (pos 7)) (by_rule 2 ∷ by_rule 2 ∷ by_rule 1 ∷ []) (two_values 1 (pos 1) (negsuc 1))
    (by_rule 2) looping (twice law) refl refl refl

-- the fifth step is the first bad one
fifth_bad : ReplayStepsHaveNoFault → IsFirst countdown (pos 3) (pos 7) five_steps 5 (AtomFails 1)
fifth_bad law =
    bad_behind countdown (both (pos 3) (pos 7)) [] (by_rule 2) four_steps (two_values 1 (pos 0) (negsuc 0)) (AtomFails 1)
    (thrice law) refl

first_counts : ReplayStepsHaveNoFault → IsFirst countdown (pos 3) (pos 7) (by_rule 9 ∷ five_steps) 5 (AtomFails 1)
first_counts law =
    bad_behind countdown (both (pos 3) (pos 7)) (by_rule 9 ∷ []) (by_rule 2) four_steps (two_values 1 (pos 0) (negsuc 0))
    (AtomFails 1) (thrice law) refl

-- the first bad step has neither another number nor another fault
other_number : ReplayStepsHaveNoFault → (p : Program) (start : List ℤ) (steps : List Step) (m n : ℕ) (f g : StepFault)
    → (m ≡ n → ⊥) → IsFirstBadStep p start steps (record { number = m; fault = f })
    → IsFirstBadStep p start steps (record { number = n; fault = g }) → ⊥
other_number law p start steps m n f g ne h k =
    ne (ap (λ (b : BadStep). b.number) (one_bad law p start steps (record { number = m; fault = f }) (record { number = n; fault = g }) h k))

other_fault : ReplayStepsHaveNoFault → (p : Program) (start : List ℤ) (steps : List Step) (n : ℕ) (f g : StepFault)
    → (f ≡ g → ⊥) → IsFirstBadStep p start steps (record { number = n; fault = f })
    → IsFirstBadStep p start steps (record { number = n; fault = g }) → ⊥
other_fault law p start steps n f g ne h k =
    ne (ap (λ (b : BadStep). b.fault) (one_bad law p start steps (record { number = n; fault = f }) (record { number = n; fault = g }) h k))

-- faults of different atoms are different
other_atom : (m n : ℕ) → (m ≡ n → ⊥) → AtomFails m ≡ AtomFails n → ⊥
other_atom m n ne e = let f : m ≡ n = cc in ne f

-- the start of the programs over one symbol
standing : (a b : ℤ) → RunsInRange counting_up (both a b) [] (two_values 0 a b)
standing a b = record { run = record { places = refl; at = refl; values = refl }; fit = tt }

at_maximum : ReplayStepsHaveNoFault
    → RunsInRange counting_up (both (pos 170141183460469231731687303715884105726) (pos 0)) (with_zero ∷ [])
    (two_values 0 maximum (pos 0))
at_maximum law =
    more law counting_up (both (pos 170141183460469231731687303715884105726) (pos 0)) []
    (two_values 0 (pos 170141183460469231731687303715884105726) (pos 0)) with_zero _
    (standing (pos 170141183460469231731687303715884105726) (pos 0)) refl refl refl

-- the start of the program that exchanges its values at a cost, one step of it, and its second step as the first bad
-- one because of its cost
at_start : (c : Term) (a b : ℤ) → RunsInRange (swapping_at_cost c) (both a b) [] (two_values 0 a b)
at_start c a b = record { run = record { places = refl; at = refl; values = refl }; fit = tt }

swapped : ReplayStepsHaveNoFault → (c : Term) (a b : ℤ)
    → replay_fault (swapping_at_cost c) (two_values 0 a b) with_zero ≡ None
    → RunsInRange (swapping_at_cost c) (both a b) (with_zero ∷ []) (two_values 0 b a)
swapped law c a b none =
    more law (swapping_at_cost c) (both a b) [] (two_values 0 a b) with_zero _ (at_start c a b) refl refl none

second_bad : ReplayStepsHaveNoFault
    → IsFirst (swapping_at_cost one_more) (pos 0) maximum (with_zero ∷ with_zero ∷ []) 2 PastRange
second_bad law =
    bad_behind (swapping_at_cost one_more) (both (pos 0) maximum) [] with_zero (with_zero ∷ []) (two_values 0 maximum (pos 0))
    PastRange (swapped law one_more (pos 0) maximum refl) refl

-- the worked first bad steps are the first bad steps
bad_steps_worked : ReplayStepsHaveNoFault → BadStepsAreWorkedOut
bad_steps_worked law = record {
  no_step = (two_values 0 (pos 3) (pos 7), begun (pos 3) (pos 7));
  four = (two_values 1 (pos 0) (negsuc 0), thrice law);
  five = λ h. none_bad law countdown (both (pos 3) (pos 7)) five_steps _ h (fifth_bad law);
  fifth = fifth_bad law;
  not_fourth = other_number law countdown (both (pos 3) (pos 7)) five_steps 5 4 _ _ (λ e. omega (arith, e)) (fifth_bad law);
  not_sixth = other_number law countdown (both (pos 3) (pos 7)) five_steps 5 6 _ _ (λ e. omega (arith, e)) (fifth_bad law);
  not_second_atom = other_fault law countdown (both (pos 3) (pos 7)) five_steps 5 (AtomFails 1) (AtomFails 2)
      (other_atom 1 2 (λ e. omega (arith, e))) (fifth_bad law);
  first_counts = first_counts law;
  not_last = other_number law countdown (both (pos 3) (pos 7)) (by_rule 9 ∷ five_steps) 5 6 _ _ (λ e. omega (arith, e))
      (first_counts law);
  second_atom = bad_behind countdown (both (pos 10) (pos 7)) [] (by_rule 2) (by_rule 1 ∷ [])
      (two_values 1 (pos 10) (pos 7)) (AtomFails 2) (entered law (pos 10) (pos 7) refl) refl;
  other_symbol = bad_behind countdown (both (pos 3) (pos 7)) [] (by_rule 2) [] (two_values 0 (pos 3) (pos 7)) OtherRule
      (begun (pos 3) (pos 7)) refl;
  no_rule = bad_behind countdown (both (pos 3) (pos 7)) [] (by_rule 3) [] (two_values 0 (pos 3) (pos 7)) OtherRule
      (begun (pos 3) (pos 7)) refl;
  surplus = bad_behind countdown (both (pos 3) (pos 7)) [] (record { rule = 1; free = pos 5 ∷ [] }) []
      (two_values 0 (pos 3) (pos 7)) OtherRule (begun (pos 3) (pos 7)) refl;
  to_maximum = (two_values 0 maximum (pos 0), at_maximum law);
  past_maximum = bad_behind counting_up (both (pos 170141183460469231731687303715884105726) (pos 0)) [] with_zero
      (with_zero ∷ []) (two_values 0 maximum (pos 0)) PastRange (at_maximum law) refl;
  not_a_run = λ h. none_bad law counting_up (both maximum (pos 0)) (with_zero ∷ [])
      (record { number = 1; fault = PastRange }) h
      (bad_behind counting_up (both maximum (pos 0)) [] with_zero [] (two_values 0 maximum (pos 0)) PastRange
      (standing maximum (pos 0)) refl);
  in_guard = bad_behind comparing (both maximum (pos 0)) [] with_zero [] (two_values 0 maximum (pos 0)) PastRange
      (record { run = record { places = refl; at = refl; values = refl }; fit = tt }) refl;
  at_minimum = (
    two_values 0 minimum minimum,
    more law comparing (both minimum minimum) [] (two_values 0 minimum minimum)
        with_zero _ (record { run = record { places = refl; at = refl; values = refl }; fit = tt }) refl refl refl,
  );
  greatest_cost = (two_values 0 (pos 0) maximum, swapped law A maximum (pos 0) refl);
  least_cost = (two_values 0 (pos 0) minimum, swapped law A minimum (pos 0) refl);
  past_cost = bad_behind (swapping_at_cost one_more) (both maximum (pos 0)) [] with_zero [] (two_values 0 maximum (pos 0))
      PastRange (at_start one_more maximum (pos 0)) refl;
  second_cost = second_bad law;
  not_first_cost = other_number law (swapping_at_cost one_more) (both (pos 0) maximum) (with_zero ∷ with_zero ∷ []) 2 1 _ _
      (λ e. omega (arith, e)) (second_bad law);
  atom_before_cost = bad_behind comparing_at_cost (both (pos 0) maximum) [] with_zero [] (two_values 0 (pos 0) maximum) (AtomFails 1)
      (record { run = record { places = refl; at = refl; values = refl }; fit = tt }) refl;
}

-- the greatest absolute value is unique
one_greatest : (p : Program) (start : List ℤ) (steps : List Step) (t i m n : ℕ) → IsGreatest p start steps t i m
    → IsGreatest p start steps t i n → m ≤ n
one_greatest p start steps t i m n h k = go h.reached
  where
    go : IsSizeAfter p start steps t i m ⊎ ((count t steps ≡ 0) × (m ≡ 0)) → m ≤ n
    go (inl s) = k.most m s
    go (inr (e, z)) = omega (arith, z)

-- the worked greatest values hold
greatest_worked : ReplayStepsHaveNoFault → GreatestAreWorkedOut
greatest_worked law = record {
  between = refl;
  first_after_2 = two;
  not_of_rule_1 = λ h.
      let l = one_greatest countdown (both (pos 3) (pos 7)) four_steps 2 1 3 2 h two in omega (arith, l);
  not_a_later_one = λ h.
      let l = one_greatest countdown (both (pos 3) (pos 7)) four_steps 2 1 2 1 two h in omega (arith, l);
  absent = none_after;
  other_rule = λ s. let l = none_after.most 3 s in omega (arith, l);
}
  where
    two : IsGreatest countdown (both (pos 3) (pos 7)) four_steps 2 1 2
    two =
        (replays_decided law).greatest countdown (both (pos 3) (pos 7)) four_steps 2 1 (omega arith)
        (two_values 1 (pos 0) (negsuc 0), thrice law)

    none_after : IsGreatest countdown (both (pos 3) (pos 7)) (by_rule 1 ∷ []) 2 1 0
    none_after =
        (replays_decided law).greatest countdown (both (pos 3) (pos 7)) (by_rule 1 ∷ []) 2 1 (omega arith)
        (two_values 1 (pos 3) (pos 7), entered law (pos 3) (pos 7) refl)

-- All worked values of this file.
pub replays_worked : ReplayStepsHaveNoFault → ReplaysAreWorkedOut
replays_worked law = record { tallies = tallies_worked; greatest = greatest_worked law; costs = costs_tallied; steps = bad_steps_worked law }
