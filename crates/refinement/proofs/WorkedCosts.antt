-- The section by the sign of A is shown if the rules have costs, and bounds carry over.
use Rattle.std.proofs.Common.{◌≡◌, ℕ, zero, suc, List, [], ◌∷◌, Some, refl, ◌∙◌, ap}
use Rattle.std.specs.Prelude.{slice_get}
use Rattle.std.proofs.lemmas.List.Elements.{All-from_recursion}
use Rattle.model.specs.Terms.{Term, Variable, Negation}
use Rattle.model.specs.Programs.{Atom, Rule, rule_at}
use Rattle.model.specs.Bounds.{Constant}
use Rattle.model.specs.WorkedRuns.{entering, looping}
use Rattle.model.specs.WorkedCosts.{with_cost, paying}
use Rattle.model.proofs.Cases.{none_some, some_same}
use Rattle.model.proofs.WorkedTotals.{totals_hold}
use Rattle.refinement.specs.Sections.{Copy, To, passes, fails}
use Rattle.refinement.specs.Obligations.{NoneMeet, guard_with_failure, IsBranchShown, HasBranch, HasBranches, IsShown}
use Rattle.refinement.specs.Worked.{less, entry_copy, loop_copy, end_copy, enters_by_sign, loops_by, never_loops}
use Rattle.refinement.specs.Worked.{split_by_sign, CostsAreKept}
use Rattle.refinement.proofs.Keeping.{shown_sections_keep_bounds}
use Rattle.refinement.proofs.WorkedSections.{entered-up, entered-down, looped-up, no-loop, fits_1, fits_2, fits_3}
use Rattle.refinement.proofs.WorkedSections.{by_sign_shown}

-- if no values of a rule's variables meet some atoms, none meet them if the rule has a cost
none-at-cost : (c : Term) (r : Rule) (atoms : List Atom) → NoneMeet r atoms → NoneMeet (with_cost c r) atoms
none-at-cost c r atoms h = record { none = h.none }

-- the rules with their costs
abbrev entering_for_a : Rule
entering_for_a = with_cost (Variable 0) entering

abbrev looping_for_b : Rule
looping_for_b = with_cost (Variable 1) looping

-- the branches of the rules with costs are shown
branch_1 : IsBranchShown NoneMeet paying split_by_sign enters_by_sign
branch_1 = record {
  copy = entry_copy;
  rule = entering_for_a;
  fits = record { there = refl; numbered = refl; leaves = refl; over_left = fits_1.over_left };
  cases = (
    record {
      copy = loop_copy (Variable 0);
      there = refl;
      target = refl;
      facts = All-from_recursion
          (λ f. NoneMeet entering_for_a (guard_with_failure entering_for_a (passes (Variable 0) ∷ []) f)) (Variable 0 ∷ [])
          (none-at-cost (Variable 0) entering _ entered-up, tt);
    },
    record {
      copy = end_copy;
      there = refl;
      target = refl;
      facts = All-from_recursion
          (λ f. NoneMeet entering_for_a (guard_with_failure entering_for_a (fails (Variable 0) ∷ []) f))
          (less (Negation (Variable 0)) 1 ∷ []) (none-at-cost (Variable 0) entering _ entered-down, tt);
    },
  );
}

branch_2 : IsBranchShown NoneMeet paying split_by_sign (loops_by (To 1))
branch_2 = record {
  copy = loop_copy (Variable 0);
  rule = looping_for_b;
  fits = record { there = refl; numbered = refl; leaves = refl; over_left = fits_2.over_left };
  cases = record {
    copy = loop_copy (Variable 0);
    there = refl;
    target = refl;
    facts = All-from_recursion
        (λ f. NoneMeet looping_for_b (guard_with_failure looping_for_b (passes (Variable 0) ∷ []) f)) (Variable 0 ∷ [])
        (none-at-cost (Variable 1) looping _ looped-up, tt);
  };
}

branch_3 : IsBranchShown NoneMeet paying split_by_sign never_loops
branch_3 = record {
  copy = end_copy;
  rule = looping_for_b;
  fits = record { there = refl; numbered = refl; leaves = refl; over_left = fits_3.over_left };
  cases = none-at-cost (Variable 1) looping _ no-loop;
}

-- each rule with its cost has its branch at each copy, as without costs
three_branches : HasBranches paying split_by_sign
three_branches = record { each = go }
  where
    go : (k : ℕ) (copy : Copy) (t : ℕ) (r : Rule) → slice_get split_by_sign.copies k ≡ Some copy
        → rule_at paying t ≡ Some r → r.source ≡ copy.over → HasBranch split_by_sign k t
    go k copy zero r there numbered leaves = absurd (none_some r numbered)
    go k copy (suc zero) r there numbered leaves =
        by_sign_shown.complete.each k copy 1 entering there refl
        (ap (λ (x : Rule). x.source) (some_same entering_for_a r numbered) ∙ leaves)
    go k copy (suc (suc zero)) r there numbered leaves =
        by_sign_shown.complete.each k copy 2 looping there refl
        (ap (λ (x : Rule). x.source) (some_same looping_for_b r numbered) ∙ leaves)
    go k copy (suc (suc (suc t))) r there numbered leaves = absurd (none_some r numbered)

by_sign_at_cost : IsShown paying split_by_sign
by_sign_at_cost = record {
  first = record { copy = entry_copy; there = refl; start = refl; facts = refl };
  branches = All-from_recursion (IsBranchShown NoneMeet paying split_by_sign) split_by_sign.branches
      (branch_1, (branch_2, (branch_3, tt)));
  complete = three_branches;
}

pub costs_are_kept : CostsAreKept
costs_are_kept = record {
  by_sign = by_sign_at_cost;
  of_copies = refl;
  from_copies = (shown_sections_keep_bounds.runs paying split_by_sign by_sign_at_cost).bounds;
  from_plain = λ h. totals_hold.paying_by_steps (h.totals (Constant 10) totals_hold.plain);
}
