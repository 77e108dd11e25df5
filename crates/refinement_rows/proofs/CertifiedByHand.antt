-- The section by the sign of A is certified, and one with a stronger fact isn't.
use Rattle.std.proofs.Common.{◌≡◌, ℕ, zero, suc, List, [], ◌∷◌, refl, sym, subst, arith}
use Rattle.std.specs.Prelude.{ℤ, pos, negsuc}
use Rattle.std.proofs.lemmas.Int.{ints}
use Rattle.std.proofs.lemmas.List.Elements.{All-from_recursion}
use Rattle.refinement.specs.model.Terms.{Variable, Negation}
use Rattle.refinement.specs.model.Programs.{Atom}
use Rattle.refinement.specs.model.WorkedRuns.{entering, looping, countdown}
use Rattle.refinement.specs.Sections.{Branch, To, passes, fails}
use Rattle.refinement.specs.Obligations.{guard_along, guard_with_failure, IsBranchShown}
use Rattle.refinement.specs.Worked.{less, entry_copy, loop_copy, end_copy, enters_by_sign, loops_by, never_loops}
use Rattle.refinement.specs.Worked.{split_by_sign, split}
use Rattle.refinement.proofs.WorkedSections.{fits_1, fits_2, fits_3, by_sign_shown, not_too_strong}
use Rattle.guard_prep.specs.linear_forms.Forms.{Form, at}
use Rattle.guard_prep.specs.linear_forms.Certificates.{combined_coef, Implies, minus_one}
use Rattle.guard_prep.specs.Laws.{IsPreparable}
use Rattle.guard_prep.specs.Tightening.{divisor_of}
use Rattle.guard_prep.specs.Prepared.{rows_of}
use Rattle.refinement_rows.specs.Certified.{with_guard, Refutes, IsRefuted}
use Rattle.refinement_rows.specs.Worked.{SectionsAreCertified}
use Rattle.refinement_rows.proofs.CertifiedLaws.{certified-shown}
use Rattle.refinement_rows.proofs.WorkedGuards.{row, below-shows, denied-shows}

-- the atoms of entering with A at least 0, with the fact A >= 0 denied; and of entering with A below 0, with the fact
-- -A - 1 >= 0 denied
abbrev up : List Atom
up = guard_with_failure entering (passes (Variable 0) ∷ []) (Variable 0)

abbrev down : List Atom
down = guard_with_failure entering (fails (Variable 0) ∷ []) (less (Negation (Variable 0)) 1)

up-rows : rows_of (with_guard entering up) ≡ row (pos 1) (pos 0) (pos 0) ∷ row (negsuc 0) (pos 0) (negsuc 0) ∷ []
unfolding divisor_of
up-rows = refl

down-rows : rows_of (with_guard entering down) ≡ row (negsuc 0) (pos 0) (negsuc 0) ∷ row (pos 1) (pos 0) (pos 0) ∷ []
unfolding divisor_of
down-rows = refl

up-prepared : IsPreparable (with_guard entering up)
up-prepared = record {
  few_variables = omega arith;
  few_atoms = omega arith;
  few_updates = omega arith;
  guard = (
    record { left = omega arith; right = tt; expands = refl },
    (record { left = omega arith; right = tt; expands = refl }, tt),
  );
  updates = (
    record { variables = omega arith; expands = refl },
    (record { variables = omega arith; expands = refl }, tt),
  );
}

down-prepared : IsPreparable (with_guard entering down)
down-prepared = record {
  few_variables = omega arith;
  few_atoms = omega arith;
  few_updates = omega arith;
  guard = (
    record { left = omega arith; right = tt; expands = refl },
    (record { left = (omega arith, tt); right = tt; expands = refl }, tt),
  );
  updates = (
    record { variables = omega arith; expands = refl },
    (record { variables = omega arith; expands = refl }, tt),
  );
}

-- the two rows of each list of atoms add up to -1
up-shows : Refutes entering up (1 ∷ 1 ∷ [])
up-shows = record {
  preparable = up-prepared;
  shows = subst (λ (rows : List Form). Implies rows (1 ∷ 1 ∷ []) minus_one) (sym up-rows)
      (record { long = refl; coefs = zeros; constant = omega (arith, ints) });
}
  where
    zeros : (u : ℕ) → at [] u ≡ combined_coef (1 ∷ 1 ∷ [])
        (row (pos 1) (pos 0) (pos 0) ∷ row (negsuc 0) (pos 0) (negsuc 0) ∷ []) u
    zeros zero = refl
    zeros (suc zero) = refl
    zeros (suc (suc u)) = refl

down-shows : Refutes entering down (1 ∷ 1 ∷ [])
down-shows = record {
  preparable = down-prepared;
  shows = subst (λ (rows : List Form). Implies rows (1 ∷ 1 ∷ []) minus_one) (sym down-rows)
      (record { long = refl; coefs = zeros; constant = omega (arith, ints) });
}
  where
    zeros : (u : ℕ) → at [] u ≡ combined_coef (1 ∷ 1 ∷ [])
        (row (negsuc 0) (pos 0) (negsuc 0) ∷ row (pos 1) (pos 0) (pos 0) ∷ []) u
    zeros zero = refl
    zeros (suc zero) = refl
    zeros (suc (suc u)) = refl

-- each branch is certified
certified_1 : IsBranchShown IsRefuted countdown split_by_sign enters_by_sign
certified_1 = record {
  copy = entry_copy;
  rule = entering;
  fits = fits_1;
  cases = (
    record {
      copy = loop_copy (Variable 0);
      there = refl;
      target = refl;
      facts = All-from_recursion (λ f. IsRefuted entering (guard_with_failure entering (passes (Variable 0) ∷ []) f))
          (Variable 0 ∷ []) (record { multipliers = 1 ∷ 1 ∷ []; refutes = up-shows }, tt);
    },
    record {
      copy = end_copy;
      there = refl;
      target = refl;
      facts = All-from_recursion (λ f. IsRefuted entering (guard_with_failure entering (fails (Variable 0) ∷ []) f))
          (less (Negation (Variable 0)) 1 ∷ []) (record { multipliers = 1 ∷ 1 ∷ []; refutes = down-shows }, tt);
    },
  );
}

certified_2 : IsBranchShown IsRefuted countdown split_by_sign (loops_by (To 1))
certified_2 = record {
  copy = loop_copy (Variable 0);
  rule = looping;
  fits = fits_2;
  cases = record {
    copy = loop_copy (Variable 0);
    there = refl;
    target = refl;
    facts = All-from_recursion (λ f. IsRefuted looping (guard_with_failure looping (passes (Variable 0) ∷ []) f))
        (Variable 0 ∷ []) (record { multipliers = 1 ∷ 0 ∷ 0 ∷ 1 ∷ []; refutes = denied-shows }, tt);
  };
}

certified_3 : IsBranchShown IsRefuted countdown split_by_sign never_loops
certified_3 = record {
  copy = end_copy;
  rule = looping;
  fits = fits_3;
  cases = record { multipliers = 1 ∷ 0 ∷ 1 ∷ []; refutes = below-shows };
}

pub sections_are_certified : SectionsAreCertified
sections_are_certified = record {
  by_sign = record {
    first = by_sign_shown.first;
    branches = All-from_recursion (IsBranchShown IsRefuted countdown split_by_sign) split_by_sign.branches
        (certified_1, (certified_2, (certified_3, tt)));
    complete = by_sign_shown.complete;
  };
  too_strong = λ h. not_too_strong (certified-shown countdown (split (less (Variable 0) 1) (To 1)) h);
}
