-- The worked guards are refuted, or aren't, as stated.
use Rattle.std.proofs.Common.{◌≡◌, ℕ, zero, suc, List, [], ◌∷◌, refl, sym, subst, arith}
use Rattle.std.specs.Prelude.{ℤ, pos, negsuc, ◌≤ℤ◌}
use Rattle.std.proofs.lemmas.Int.{ints}
use Rattle.std.proofs.lemmas.List.Elements.{All-from_recursion}
use Rattle.refinement.specs.model.Terms.{Term, Variable, Negation}
use Rattle.refinement.specs.model.Programs.{Atom, AtomHolds, GuardHolds}
use Rattle.refinement.specs.model.WorkedRuns.{looping}
use Rattle.refinement.specs.Sections.{passes}
use Rattle.refinement.specs.Obligations.{guard_along, guard_with_failure}
use Rattle.refinement.specs.Worked.{less}
use Rattle.guard_prep.specs.linear_forms.Forms.{Form, at}
use Rattle.guard_prep.specs.linear_forms.Certificates.{combined_coef, Implies, minus_one}
use Rattle.guard_prep.specs.Laws.{IsPreparable}
use Rattle.guard_prep.specs.Tightening.{divisor_of}
use Rattle.guard_prep.specs.Prepared.{rows_of}
use Rattle.refinement_rows.specs.Certified.{with_guard, Refutes, IsRefuted}
use Rattle.refinement_rows.specs.Worked.{GuardsAreRefuted}
use Rattle.refinement_rows.proofs.CertifiedLaws.{refuted-unmet}

-- a row with coefficients of A and B, and a constant
abbrev pub row : ℤ → ℤ → ℤ → Form
row a b k = record { coefs = a ∷ b ∷ []; constant = k }

-- the guard of the loop where A is below 0; and the guard of the loop with the fact A >= 0 denied after it
abbrev below : List Atom
below = guard_along looping (passes (less (Negation (Variable 0)) 1) ∷ [])

abbrev denied : List Atom
denied = guard_with_failure looping (passes (Variable 0) ∷ []) (Variable 0)

below-rows : rows_of (with_guard looping below)
    ≡ row (pos 1) (pos 0) (negsuc 0) ∷ row (negsuc 0) (pos 0) (pos 9) ∷ row (negsuc 0) (pos 0) (negsuc 0) ∷ []
unfolding divisor_of
below-rows = refl

denied-rows : rows_of (with_guard looping denied)
    ≡ row (pos 1) (pos 0) (negsuc 0) ∷ row (negsuc 0) (pos 0) (pos 9) ∷ row (pos 1) (pos 0) (pos 0)
    ∷ row (negsuc 0) (pos 0) (pos 0) ∷ []
unfolding divisor_of
denied-rows = refl

-- both guards can be prepared
below-prepared : IsPreparable (with_guard looping below)
below-prepared = record {
  few_variables = omega arith;
  few_atoms = omega arith;
  few_updates = omega arith;
  guard = (
    record { left = omega arith; right = tt; expands = refl },
    (
      record { left = omega arith; right = tt; expands = refl },
      (record { left = (omega arith, tt); right = tt; expands = refl }, tt),
    ),
  );
  updates = (
    record { variables = (omega arith, tt); expands = refl },
    (record { variables = omega arith; expands = refl }, tt),
  );
}

denied-prepared : IsPreparable (with_guard looping denied)
denied-prepared = record {
  few_variables = omega arith;
  few_atoms = omega arith;
  few_updates = omega arith;
  guard = (
    record { left = omega arith; right = tt; expands = refl },
    (
      record { left = omega arith; right = tt; expands = refl },
      (
        record { left = omega arith; right = tt; expands = refl },
        (record { left = (omega arith, tt); right = tt; expands = refl }, tt),
      ),
    ),
  );
  updates = (
    record { variables = (omega arith, tt); expands = refl },
    (record { variables = omega arith; expands = refl }, tt),
  );
}

-- the first row and the third add up to -2
pub below-shows : Refutes looping below (1 ∷ 0 ∷ 1 ∷ [])
below-shows = record {
  preparable = below-prepared;
  shows = subst (λ (rows : List Form). Implies rows (1 ∷ 0 ∷ 1 ∷ []) minus_one) (sym below-rows)
      (record { long = refl; coefs = zeros; constant = omega (arith, ints) });
}
  where
    zeros : (u : ℕ) → at [] u ≡ combined_coef (1 ∷ 0 ∷ 1 ∷ [])
        (row (pos 1) (pos 0) (negsuc 0) ∷ row (negsuc 0) (pos 0) (pos 9) ∷ row (negsuc 0) (pos 0) (negsuc 0) ∷ []) u
    zeros zero = refl
    zeros (suc zero) = refl
    zeros (suc (suc u)) = refl

-- the first row and the fourth add up to -1
pub denied-shows : Refutes looping denied (1 ∷ 0 ∷ 0 ∷ 1 ∷ [])
denied-shows = record {
  preparable = denied-prepared;
  shows = subst (λ (rows : List Form). Implies rows (1 ∷ 0 ∷ 0 ∷ 1 ∷ []) minus_one) (sym denied-rows)
      (record { long = refl; coefs = zeros; constant = omega (arith, ints) });
}
  where
    zeros : (u : ℕ) → at [] u ≡ combined_coef (1 ∷ 0 ∷ 0 ∷ 1 ∷ [])
        (row (pos 1) (pos 0) (negsuc 0) ∷ row (negsuc 0) (pos 0) (pos 9) ∷ row (pos 1) (pos 0) (pos 0)
        ∷ row (negsuc 0) (pos 0) (pos 0) ∷ []) u
    zeros zero = refl
    zeros (suc zero) = refl
    zeros (suc (suc u)) = refl

-- multipliers that refute a guard show that -1 follows from its rows
below-of : (ms : List ℕ) → Refutes looping below ms
    → Implies (row (pos 1) (pos 0) (negsuc 0) ∷ row (negsuc 0) (pos 0) (pos 9) ∷ row (negsuc 0) (pos 0) (negsuc 0) ∷ [])
    ms minus_one
below-of ms h = subst (λ (rows : List Form). Implies rows ms minus_one) below-rows h.shows

not_second : Refutes looping below (0 ∷ 1 ∷ 1 ∷ []) → ⊥
not_second h = let k = below-of (0 ∷ 1 ∷ 1 ∷ []) h in let low = k.constant in omega (arith, ints, low)

not_short : Refutes looping below (1 ∷ 0 ∷ []) → ⊥
not_short h = let k = below-of (1 ∷ 0 ∷ []) h in let long = k.long in omega (arith, long)

-- at A = 1 and B = 0 the loop is enabled, and after it A isn't at least 1
abbrev one_zero : List ℤ
one_zero = pos 1 ∷ pos 0 ∷ []

fails-at-one : GuardHolds one_zero (guard_with_failure looping (passes (Variable 0) ∷ []) (less (Variable 0) 1))
fails-at-one = All-from_recursion (AtomHolds one_zero)
    (guard_with_failure looping (passes (Variable 0) ∷ []) (less (Variable 0) 1))
    (omega (arith, ints), (omega (arith, ints), (omega (arith, ints), (omega (arith, ints), tt))))

loops-at-one : GuardHolds one_zero (guard_along looping [])
loops-at-one = All-from_recursion (AtomHolds one_zero) (guard_along looping [])
    (omega (arith, ints), (omega (arith, ints), tt))

pub guards_are_refuted : GuardsAreRefuted
guards_are_refuted = record {
  never = below-shows;
  other_row = not_second;
  short = not_short;
  fact = denied-shows;
  too_strong = λ h. (refuted-unmet looping
      (guard_with_failure looping (passes (Variable 0) ∷ []) (less (Variable 0) 1)) h).none one_zero refl fails-at-one;
  loop = λ h. (refuted-unmet looping (guard_along looping []) h).none one_zero refl loops-at-one;
}
