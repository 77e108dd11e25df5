-- The worked facts hold at symbols, and the worked programs simulate others, or don't.
use Rattle.std.proofs.Common.{◌≡◌, ℕ, zero, suc, [], ◌∷◌, pos, Option, Some, None}
use Rattle.std.proofs.Common.{refl, sym, ◌∙◌, ap, subst, arith}
use Rattle.std.specs.Prelude.{slice_get}
use Rattle.std.proofs.lemmas.Int.{ints}
use Rattle.std.proofs.lemmas.List.Elements.{All-nil, All-cons, All-head}
use Rattle.model.specs.Terms.{Literal, Variable}
use Rattle.model.specs.Programs.{AtLeast, AtMost, Atom, Compare, Rule, rule_at, AtomHolds, GuardHolds}
use Rattle.model.specs.Runs.{IsRun}
use Rattle.model.specs.Worked.{by_rule, one_value, two_values}
use Rattle.model.specs.WorkedRuns.{entering, looping, countdown, entry_alone}
use Rattle.model.proofs.Cases.{none_some, some_same}
use Rattle.refinement.specs.Simulation.{IsEnabled, HasEnabledCopy}
use Rattle.refinement.specs.Sections.{Copy}
use Rattle.refinement.specs.Laws.{FollowsFrom, AreWeaker, IsWeaker, same_numbers}
use Rattle.refinement.specs.Worked.{FactsHoldAtSymbols, ProgramsSimulate, less, entry_copy, loop_copy, entering_from_3}
use Rattle.refinement.specs.Worked.{from_3, at_least, looping_from_1, longer_countdown}
use Rattle.refinement.proofs.Keeping.{shown_sections_keep_bounds}
use Rattle.refinement.proofs.WorkedSections.{at_least_3_shown}

-- what follows from the facts of the copy of l1
follows_3 : (k : ℕ) (copy : Copy) → slice_get (at_least 3).copies k ≡ Some copy → copy.over ≡ 1
    → FollowsFrom copy.facts (less (Variable 0) 3)
follows_3 zero copy there over =
    absurd (omega (arith, ap (λ (c : Copy). c.over) (some_same entry_copy copy there), over))
follows_3 (suc zero) copy there over =
    subst (λ (c : Copy). FollowsFrom c.facts (less (Variable 0) 3))
    (some_same (loop_copy (less (Variable 0) 3)) copy there)
    (record { each = λ values met. met 0 (less (Variable 0) 3) (omega arith) })
follows_3 (suc (suc k)) copy there over = absurd (none_some copy there)

-- the run from l0(3) by the one rule
from_3_run : IsRun from_3 (pos 3 ∷ []) (by_rule 1 ∷ []) (one_value 1 (pos 3))
from_3_run = (
  one_value 0 (pos 3),
  record { places = refl; at = refl; values = refl },
  record {
    rule = entering_from_3;
    numbered = refl;
    leads = record {
      source = refl;
      left = refl;
      free_ones = refl;
      guard = All-cons (AtomHolds (pos 3 ∷ [])) (Compare (Variable 0) AtLeast (Literal (pos 3))) [] (omega (arith, ints))
          (All-nil (AtomHolds (pos 3 ∷ [])));
      target = refl;
      values = refl;
    };
  },
)

pub facts_hold_at_symbols : FactsHoldAtSymbols
facts_hold_at_symbols = record {
  at_least_3 = (shown_sections_keep_bounds.facts from_3 (at_least 3) at_least_3_shown).each 1 (less (Variable 0) 3) follows_3;
  at_least_4 = λ h. omega (arith, ints, h.each (pos 3 ∷ []) (by_rule 1 ∷ []) (one_value 1 (pos 3)) from_3_run refl);
  at_start = λ h. omega (arith, ints, h.each (pos 0 ∷ []) [] (one_value 0 (pos 0)) (record { places = refl; at = refl; values = refl }) refl);
}

-- each rule is weaker than itself, in the weak sense
itself : (r : Rule) → IsWeaker r r
itself r = record {
  source = refl;
  target = refl;
  left = refl;
  free = refl;
  updates = refl;
  cost = refl;
  guard = λ env h. h;
}

-- the looping rule without its second atom is weaker
weaker_loop : IsWeaker looping looping_from_1
weaker_loop = record {
  source = refl;
  target = refl;
  left = refl;
  free = refl;
  updates = refl;
  cost = refl;
  guard = λ env h. let P = AtomHolds env in
      let first : Atom = Compare (Variable 0) AtLeast (Literal (pos 1)) in
      let last : Atom = Compare (Variable 0) AtMost (Literal (pos 9)) in
      All-cons P first [] (All-head P first (last ∷ []) h) (All-nil P);
}

same_rules : (o : Option Rule) → AreWeaker o o
same_rules None = tt
same_rules (Some r) = itself r

longer_rules : (t : ℕ) → AreWeaker (rule_at countdown t) (rule_at longer_countdown t)
longer_rules zero = tt
longer_rules (suc zero) = itself entering
longer_rules (suc (suc zero)) = weaker_loop
longer_rules (suc (suc (suc t))) = tt

-- at l1(10, 0) the looping rule without its second atom is enabled, and the looping rule isn't
enabled_at_10 : IsEnabled looping_from_1 (two_values 1 (pos 10) (pos 0)) []
enabled_at_10 = record {
  source = refl;
  left = refl;
  free_ones = refl;
  guard = All-cons (AtomHolds (pos 10 ∷ pos 0 ∷ [])) (Compare (Variable 0) AtLeast (Literal (pos 1))) []
      (omega (arith, ints)) (All-nil (AtomHolds (pos 10 ∷ pos 0 ∷ [])));
}

not_enabled_at_10 : HasEnabledCopy countdown same_numbers 2 (two_values 1 (pos 10) (pos 0)) [] → ⊥
not_enabled_at_10 h =
    let numbered : rule_at countdown 2 ≡ Some h.rule = ap (rule_at countdown) (sym h.above) ∙ h.numbered in
    let guard : GuardHolds (pos 10 ∷ pos 0 ∷ []) looping.guard =
    subst (λ (r : Rule). GuardHolds (pos 10 ∷ pos 0 ∷ []) r.guard) (sym (some_same looping h.rule numbered))
    h.enabled.guard in
    omega (arith, ints, guard 1 (Compare (Variable 0) AtMost (Literal (pos 9))) (omega arith))

-- at l1(1, 0) the looping rule is enabled, and the program without it has no rule 2
enabled_at_1 : IsEnabled looping (two_values 1 (pos 1) (pos 0)) []
enabled_at_1 =
    let P = AtomHolds (pos 1 ∷ pos 0 ∷ []) in
    let first : Atom = Compare (Variable 0) AtLeast (Literal (pos 1)) in
    let last : Atom = Compare (Variable 0) AtMost (Literal (pos 9)) in
    record {
      source = refl;
      left = refl;
      free_ones = refl;
      guard = All-cons P first (last ∷ []) (omega (arith, ints)) (All-cons P last [] (omega (arith, ints)) (All-nil P));
    }

not_enabled_at_1 : HasEnabledCopy entry_alone same_numbers 2 (two_values 1 (pos 1) (pos 0)) [] → ⊥
not_enabled_at_1 h = none_some h.rule (ap (rule_at entry_alone) (sym h.above) ∙ h.numbered)

pub programs_simulate : ProgramsSimulate
programs_simulate = record {
  itself = record { start = refl; places = refl; rules = λ t. same_rules (rule_at countdown t) };
  fewer_atoms = record { start = refl; places = refl; rules = longer_rules };
  more_atoms = λ h. not_enabled_at_10 (h.covered 2 looping_from_1 (two_values 1 (pos 10) (pos 0)) [] tt refl enabled_at_10);
  fewer_rules = λ h. not_enabled_at_1 (h.covered 2 looping (two_values 1 (pos 1) (pos 0)) [] tt refl enabled_at_1);
}
