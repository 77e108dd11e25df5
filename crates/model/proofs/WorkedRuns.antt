-- Proofs of the worked steps and runs.
use Rattle.std.proofs.Common.{◌≡◌, List, [], ◌∷◌, ℤ, pos, negsuc, Some, None, refl, sym, subst, ap, arith, ◌≤ℤ◌, ◌-ℤ◌}
use Rattle.std.proofs.Common.{neg_ℤ}
use Rattle.std.specs.Prelude.{slice_index_or}
use Rattle.std.proofs.lemmas.Int.{ints}
use Rattle.std.proofs.lemmas.List.Elements.{All-nil, All-cons, All-head, All-tail}
use Rattle.model.specs.Terms.{Literal, Variable}
use Rattle.model.specs.Programs.{Program, Rule, rule_at, AtLeast, AtMost, Atom, Compare, AtomHolds, GuardHolds}
use Rattle.model.specs.Runs.{Config, Step, Leads, IsStep, IsRun}
use Rattle.model.specs.Worked.{by_rule, with_free, two_values}
use Rattle.model.specs.WorkedRuns.{RelationsHoldBelowZero, StepsAreSteps, RunsAreRuns, entering, looping, countdown}
use Rattle.model.specs.WorkedRuns.{choosing, both}
use Rattle.model.proofs.RunLaws.{same_rule, same_end}
use Rattle.model.proofs.WorkedValues.{steps_lead}

-- the worked values of the relations at negative integers hold
pub below_zero : RelationsHoldBelowZero
below_zero = record {
  at_least = (omega (arith, ints), λ h. omega (arith, ints, h), λ h. omega (arith, ints, h));
  more_than = (omega (arith, ints), λ h. omega (arith, ints, h), λ h. omega (arith, ints, h));
  at_most = (omega (arith, ints), λ h. omega (arith, ints, h), omega (arith, ints));
  less_than = (omega (arith, ints), λ h. omega (arith, ints, h), omega (arith, ints));
  equal_to = (refl, λ h. omega (arith, ints, h), λ h. omega (arith, ints, h));
}

-- a step leads by the rule with its number
pub leads_by : (p : Program) (b : Config) (s : Step) (d : Config) (r : Rule) → rule_at p s.rule ≡ Some r
    → IsStep p b s d → Leads r b s.free d
leads_by p b s d r e h = subst (λ (q : Rule). Leads q b s.free d) (same_rule p s.rule h.rule r h.numbered e) h.leads

-- no step is by a number without a rule
pub leads_nowhere : (p : Program) (b : Config) (s : Step) (d : Config) → rule_at p s.rule ≡ None → IsStep p b s d → ⊥
leads_nowhere p b s d e h = apart (sym e) h.numbered
  where
    apart : None ≡ rule_at p s.rule → rule_at p s.rule ≡ Some h.rule → ⊥
    apart f g = cc

-- the two atoms of the loop's guard
abbrev first_atom : Atom
first_atom = Compare (Variable 0) AtLeast (Literal (pos 1))

abbrev last_atom : Atom
last_atom = Compare (Variable 0) AtMost (Literal (pos 9))

-- the loop's guard holds if A is from 1 to 9
pub loop_guard : (a b : ℤ) → pos 1 ≤ℤ a → a ≤ℤ pos 9 → GuardHolds (a ∷ b ∷ []) looping.guard
loop_guard a b low high = let P = AtomHolds (a ∷ b ∷ []) in All-cons P first_atom (last_atom ∷ []) low (All-cons P last_atom [] high (All-nil P))

-- if the loop's guard holds, its first atom does
pub loop_low : (env : List ℤ) → GuardHolds env looping.guard → pos 1 ≤ℤ slice_index_or env 0 (pos 0)
loop_low env h = All-head (AtomHolds env) first_atom (last_atom ∷ []) h

-- if the loop's guard holds, its last atom does
pub loop_high : (env : List ℤ) → GuardHolds env looping.guard → slice_index_or env 0 (pos 0) ≤ℤ pos 9
loop_high env h = let P = AtomHolds env in All-head P last_atom [] (All-tail P first_atom (last_atom ∷ []) h)

-- the first of two values
abbrev first_value : List ℤ → ℤ
first_value [] = pos 0
first_value (x ∷ xs) = x

-- rule 1 leads from l0 with any values to l1 with the same values
pub enters_at : (a b : ℤ) → Leads entering (two_values 0 a b) [] (two_values 1 a b)
enters_at a b = record { source = refl; left = refl; free_ones = refl; guard = All-nil (AtomHolds (a ∷ b ∷ [])); target = refl; values = refl }

-- a step by rule 1 leads from l0 with any values to l1 with the same values
pub step_in : (a b : ℤ) → IsStep countdown (two_values 0 a b) (by_rule 1) (two_values 1 a b)
step_in a b = record { rule = entering; numbered = refl; leads = enters_at a b }

-- rule 2 leads from l1 to l1 if its guard holds
pub loops_at : (a b c d : ℤ) → pos 1 ≤ℤ a → a ≤ℤ pos 9 → both c d ≡ both (a -ℤ pos 1) (neg_ℤ a)
    → IsStep countdown (two_values 1 a b) (by_rule 2) (two_values 1 c d)
loops_at a b c d low high e = record {
  rule = looping;
  numbered = refl;
  leads = record { source = refl; left = refl; free_ones = refl; guard = loop_guard a b low high; target = refl; values = e };
}

-- the worked steps are steps, and the others aren't
pub steps_are_steps : StepsAreSteps
steps_are_steps = record {
  enters = step_in (pos 3) (pos 7);
  loops = loops_at (pos 3) (pos 7) (pos 2) (negsuc 2) (omega (arith, ints)) (omega (arith, ints)) refl;
  moves = λ h. let l = leads_by countdown (two_values 0 (pos 3) (pos 7)) (by_rule 1) (two_values 0 (pos 3) (pos 7)) entering refl h in omega (arith, l.target);
  keeps_order = λ h. let l = leads_by countdown (two_values 0 (pos 3) (pos 7)) (by_rule 1) (two_values 1 (pos 7) (pos 3)) entering refl h in omega (arith, ints, ap first_value l.values);
  loops_in_order = λ h. let l = leads_by countdown (two_values 1 (pos 3) (pos 7)) (by_rule 2) (two_values 1 (negsuc 2) (pos 2)) looping refl h in omega (arith, ints, ap first_value l.values);
  not_from_l1 = λ d h. let l = leads_by countdown (two_values 1 (pos 3) (pos 7)) (by_rule 1) d entering refl h in omega (arith, l.source);
  not_from_l0 = λ d h. let l = leads_by countdown (two_values 0 (pos 3) (pos 7)) (by_rule 2) d looping refl h in omega (arith, l.source);
  highest = loops_at (pos 9) (pos 7) (pos 8) (negsuc 8) (omega (arith, ints)) (omega (arith, ints)) refl;
  lowest = loops_at (pos 1) (pos 7) (pos 0) (negsuc 0) (omega (arith, ints)) (omega (arith, ints)) refl;
  first_atom_fails = λ d h. let l = leads_by countdown (two_values 1 (pos 0) (pos 7)) (by_rule 2) d looping refl h in omega (arith, ints, loop_low (both (pos 0) (pos 7)) l.guard);
  last_atom_fails = λ d h. let l = leads_by countdown (two_values 1 (pos 10) (pos 7)) (by_rule 2) d looping refl h in omega (arith, ints, loop_high (both (pos 10) (pos 7)) l.guard);
  not_by_the_entry = λ c d h. leads_nowhere countdown c (by_rule 0) d refl h;
  not_past_the_rules = λ c d h. leads_nowhere countdown c (by_rule 3) d refl h;
  no_free_values = λ c d h. let l = leads_by countdown c (record { rule = 1; free = pos 5 ∷ [] }) d entering refl h in omega (arith, l.free_ones);
  one_free_value = record { rule = with_free; numbered = refl; leads = steps_lead.leads };
  missing_free_value = λ c d h. let l = leads_by choosing c (by_rule 1) d with_free refl h in omega (arith, l.free_ones);
  two_free_values = λ c d h. let l = leads_by choosing c (record { rule = 1; free = pos 2 ∷ pos 2 ∷ [] }) d with_free refl h in omega (arith, l.free_ones);
}

-- no run begins with a step by rule 2
pub not_first : (start : List ℤ) (c : Config) → IsRun countdown start (by_rule 2 ∷ []) c → ⊥
not_first start c (b, run, step) = let l = leads_by countdown b (by_rule 2) c looping refl step in omega (arith, run.at, l.source)

-- no step by rule 1 follows one by rule 2
pub not_behind : (b d e : Config) → IsStep countdown b (by_rule 2) d → IsStep countdown d (by_rule 1) e → ⊥
not_behind b d e loop enter =
    let l = leads_by countdown b (by_rule 2) d looping refl loop in
    let m = leads_by countdown d (by_rule 1) e entering refl enter in
    omega (arith, l.target, m.source)

-- no run has a step by rule 1 after one by rule 2
pub not_swapped : (start : List ℤ) (earlier : List Step) (c : Config)
    → IsRun countdown start (by_rule 1 ∷ by_rule 2 ∷ earlier) c → ⊥
not_swapped start earlier c (d, (b, run, loop), enter) = not_behind b d c loop enter

-- the run by rule 1 alone, from any start values
pub entered : (a b : ℤ) → IsRun countdown (both a b) (by_rule 1 ∷ []) (two_values 1 a b)
entered a b = (two_values 0 a b, record { places = refl; at = refl; values = refl }, step_in a b)

-- a run with one more step by rule 2 is a run if the guard holds
pub looped : (start : List ℤ) (steps : List Step) (a b c d : ℤ) → pos 1 ≤ℤ a → a ≤ℤ pos 9
    → both c d ≡ both (a -ℤ pos 1) (neg_ℤ a) → IsRun countdown start steps (two_values 1 a b)
    → IsRun countdown start (by_rule 2 ∷ steps) (two_values 1 c d)
looped start steps a b c d low high e run = (two_values 1 a b, run, loops_at a b c d low high e)

-- the worked runs are runs, and the others aren't
pub runs_are_runs : RunsAreRuns
runs_are_runs =
    let start : List ℤ = both (pos 3) (pos 7) in
    let one = entered (pos 3) (pos 7) in
    let two = looped start (by_rule 1 ∷ []) (pos 3) (pos 7) (pos 2) (negsuc 2) (omega (arith, ints)) (omega (arith, ints)) refl one in
    let three = looped start (by_rule 2 ∷ by_rule 1 ∷ []) (pos 2) (negsuc 2) (pos 1) (negsuc 1) (omega (arith, ints)) (omega (arith, ints)) refl two in
    record {
      no_steps = record { places = refl; at = refl; values = refl };
      begins_at_start = λ h. omega (arith, h.at);
      begins_with_start_values = λ h. omega (arith, ints, ap first_value h.values);
      one_start_value = λ c h. omega (arith, h.places);
      three_start_values = λ c h. omega (arith, h.places);
      one_step = one;
      four_steps = looped start (by_rule 2 ∷ by_rule 2 ∷ by_rule 1 ∷ []) (pos 1) (negsuc 1) (pos 0) (negsuc 0) (omega (arith, ints)) (omega (arith, ints)) refl three;
      swapped = λ s c h. not_swapped s (by_rule 2 ∷ by_rule 2 ∷ []) c h;
      two_swapped = λ s c h. not_swapped s [] c h;
      first_at_start = not_first;
      chained = λ h. omega (arith, ints, ap (λ (c : Config). first_value c.values) (same_end countdown start (by_rule 2 ∷ by_rule 1 ∷ []) (two_values 1 (pos 5) (negsuc 5)) (two_values 1 (pos 2) (negsuc 2)) h two));
    }
