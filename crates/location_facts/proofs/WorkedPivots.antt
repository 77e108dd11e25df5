-- The worked values of the answers with 0 pivots hold.
use Rattle.std.proofs.Common.{◌≡◌, ◌⊎◌, inl, inr, ℕ, zero, suc, ◌+◌, ◌<◌, ◌≤◌, ◌^◌, ap, arith, refl, sym, subst, ◌∙◌}
use Rattle.std.proofs.Common.{[], ◌∷◌, length, Some, true, false}
use Rattle.std.specs.Int.{◌∣◌}
use Rattle.std.specs.Prelude.{ℤ, pos, negsuc, ◌*ℤ◌, unsigned_abs}
use Rattle.std.proofs.lemmas.Int.{ints}
use Rattle.std.proofs.lemmas.Nat.Gcd.{dvd_refl, dvd-zero}
use Rattle.poly_terms.specs.linear_forms.Causes.{Cause, range, budget, wide, scale}
use Rattle.poly_terms.specs.linear_forms.Certificates.{minus_one}
use Rattle.poly_terms.specs.linear_forms.Forms.{at}
use Rattle.poly_terms.specs.linear_forms.Limits.{certificate_limit}
use Rattle.poly_terms.specs.linear_forms.LinearProgram.{LinearProgram, IsDual}
use Rattle.poly_terms.specs.linear_forms.Questions.{program_of_question}
use Rattle.poly_terms.proofs.model.Cases.{none_some, some_same}
use Rattle.lp_builder.specs.simplex_core.Bland.{next, tableau_at, is_infeasible}
use Rattle.lp_builder.specs.simplex_core.Outcome.{IsSmallRatio, IsInRange, ExceedsNumberRange, ExceedsPivotLimit}
use Rattle.lp_builder.specs.simplex_core.Tableau.{Tableau, first_tableau, equation, cost, pivot}
use Rattle.lp_builder.specs.simplex_core.HitsLimit.{HitsLimit, ScaledSolutionExceeds, ScaledDualExceeds}
use Rattle.lp_builder.proofs.simplex_core.Certificates.{dual-excludes}
use Rattle.cert_types.specs.guard_prep.Tightening.{divisor_of}
use Rattle.rule_questions.specs.ProgramQuestions.{forms_at}
use Rattle.location_facts.specs.Kept.{goal_program, IsSolvedWithin, IsImplied}
use Rattle.location_facts.specs.Rows.{combined}
use Rattle.location_facts.specs.Worked.{fact}
use Rattle.location_facts.specs.WorkedKept.{resetting, reset_program, PivotsAreWorkedOut}
use Rattle.location_facts.proofs.WorkedKept.{below-one, below-two, below-three}

-- a property of the numbers from 0 to 3 holds below 4; of those from 0 to 4 below 5
below-four : (P : ℕ → Type 0) → P 0 → P 1 → P 2 → P 3 → (i : ℕ) → i < 4 → P i
below-four P a b c d zero l = a
below-four P a b c d (suc zero) l = b
below-four P a b c d (suc (suc zero)) l = c
below-four P a b c d (suc (suc (suc zero))) l = d
below-four P a b c d (suc (suc (suc (suc n)))) l = absurd (omega (arith, l))

below-five : (P : ℕ → Type 0) → P 0 → P 1 → P 2 → P 3 → P 4 → (i : ℕ) → i < 5 → P i
below-five P a b c d e zero l = a
below-five P a b c d e (suc n) l = below-four (λ i. P (suc i)) b c d e n (omega (arith, l))

-- a numerator that is 0, or equals its denominator, is small in lowest terms
sized : (m k : ℕ) → ((j : ℕ) → j ∣ m → j ∣ k → j ≡ 1) → (m ≡ 0) ⊎ (m ≡ k) → (m < 2 ^ 31) × (k < 2 ^ 31)
sized m k lowest (inl e) =
    let one : k ≡ 1 = lowest k (subst (λ (v : ℕ). k ∣ v) (sym e) (dvd-zero k)) (dvd_refl k) in
    (omega (arith, e), omega (arith, one))
sized m k lowest (inr e) =
    let one : k ≡ 1 = lowest k (subst (λ (v : ℕ). k ∣ v) (sym e) (dvd_refl k)) (dvd_refl k) in
    (omega (arith, e, one), omega (arith, one))

-- 0, 1 and -1 are small numbers
zero-small : (z : ℤ) → z ≡ pos 0 → IsSmallRatio z (pos 1)
zero-small z e = record {
  each = λ n d positive lowest same.
      sized (unsigned_abs n) (unsigned_abs d) lowest (inl (none n d (subst (λ (v : ℤ). n *ℤ pos 1 ≡ v *ℤ d) e same)));
}
  where
    none : (n d : ℤ) → n *ℤ pos 1 ≡ pos 0 *ℤ d → unsigned_abs n ≡ 0
    none n d same = omega (arith, ints, same)

one-small : (z : ℤ) → z ≡ pos 1 → IsSmallRatio z (pos 1)
one-small z e = record {
  each = λ n d positive lowest same.
      sized (unsigned_abs n) (unsigned_abs d) lowest (inr (even n d (subst (λ (v : ℤ). n *ℤ pos 1 ≡ v *ℤ d) e same)));
}
  where
    even : (n d : ℤ) → n *ℤ pos 1 ≡ pos 1 *ℤ d → unsigned_abs n ≡ unsigned_abs d
    even n d same = ap unsigned_abs (let e : n ≡ d = omega (arith, ints, same) in e)

minus-small : (z : ℤ) → z ≡ negsuc 0 → IsSmallRatio z (pos 1)
minus-small z e = record {
  each = λ n d positive lowest same.
      sized (unsigned_abs n) (unsigned_abs d) lowest (inr (even n d (subst (λ (v : ℤ). n *ℤ pos 1 ≡ v *ℤ d) e same)));
}
  where
    even : (n d : ℤ) → n *ℤ pos 1 ≡ negsuc 0 *ℤ d → unsigned_abs n ≡ unsigned_abs d
    even n d same = omega (arith, ints, same)

-- with 0 pivots there is only the first tableau
first-alone : (p : LinearProgram) (k : ℕ) (t : Tableau) → k ≤ 0 → tableau_at p k ≡ Some t → first_tableau p ≡ t
first-alone p zero t l e = some_same (first_tableau p) t e
first-alone p (suc k) t l e = absurd (omega (arith, l))

-- the linear programs of A >= 0 and of A >= -1 after the rule
abbrev zero_program : LinearProgram
zero_program = reset_program (pos 0)

abbrev minus_program : LinearProgram
minus_program = reset_program (negsuc 0)

-- a number of a program's first tableau is small
abbrev IsSmallAt : LinearProgram → ℕ → ℕ → Type 0
IsSmallAt p i j = IsSmallRatio ((first_tableau p).entry i j) ((first_tableau p).scale i)

-- the numbers of these first tableaux are 0, 1 and -1
zero-in-range : IsInRange zero_program (first_tableau zero_program)
unfolding program_of_question divisor_of first_tableau equation cost
zero-in-range = record {
  each = λ i j inside.
      below-five (λ i. (j : ℕ) → j < 4 → (2 ≤ i → j < 3) → IsSmallAt zero_program i j)
      (λ j l h. below-four (IsSmallAt zero_program 0) (zero-small _ refl) (one-small _ refl) (zero-small _ refl)
      (zero-small _ refl) j l)
      (λ j l h. below-four (IsSmallAt zero_program 1) (minus-small _ refl) (zero-small _ refl) (one-small _ refl)
      (zero-small _ refl) j l)
      (λ j l h. below-three (IsSmallAt zero_program 2) (one-small _ refl) (zero-small _ refl) (zero-small _ refl) j
      (h (omega arith)))
      (λ j l h. below-three (IsSmallAt zero_program 3) (zero-small _ refl) (zero-small _ refl) (zero-small _ refl) j
      (h (omega arith)))
      (λ j l h. below-three (IsSmallAt zero_program 4) (zero-small _ refl) (zero-small _ refl) (zero-small _ refl) j
      (h (omega arith)))
      i inside.row j inside.column inside.cost;
}

minus-in-range : IsInRange minus_program (first_tableau minus_program)
unfolding program_of_question divisor_of first_tableau equation cost
minus-in-range = record {
  each = λ i j inside.
      below-five (λ i. (j : ℕ) → j < 4 → (2 ≤ i → j < 3) → IsSmallAt minus_program i j)
      (λ j l h. below-four (IsSmallAt minus_program 0) (zero-small _ refl) (one-small _ refl) (zero-small _ refl)
      (zero-small _ refl) j l)
      (λ j l h. below-four (IsSmallAt minus_program 1) (one-small _ refl) (zero-small _ refl) (one-small _ refl)
      (one-small _ refl) j l)
      (λ j l h. below-three (IsSmallAt minus_program 2) (minus-small _ refl) (zero-small _ refl) (zero-small _ refl) j
      (h (omega arith)))
      (λ j l h. below-three (IsSmallAt minus_program 3) (zero-small _ refl) (zero-small _ refl) (zero-small _ refl) j
      (h (omega arith)))
      (λ j l h. below-three (IsSmallAt minus_program 4) (zero-small _ refl) (zero-small _ refl) (zero-small _ refl) j
      (h (omega arith)))
      i inside.row j inside.column inside.cost;
}

-- no number is out of range, no pivot is missing, and the table isn't too wide
zero-range : (k : ℕ) → ExceedsNumberRange zero_program 0 k → ⊥
zero-range k t =
    t.out (subst (IsInRange zero_program) (first-alone zero_program k t.last t.within t.reached.is) zero-in-range)

zero-budget : ExceedsPivotLimit zero_program 0 → ⊥
unfolding program_of_question divisor_of first_tableau equation cost
zero-budget t =
    none_some t.following
    (subst (λ (u : Tableau). next zero_program u ≡ Some t.following)
    (sym (first-alone zero_program 0 t.last (omega arith) t.reached.is)) t.goes_on)

-- a row whose basic column is past the program's has no part in its solution
outside : (N : Type 0) {F : ℕ → Type 0} {B : Type 0} (basis : ℕ → ℕ) (j m : ℕ) → j < 1
    → ((i : ℕ) → basis i ≡ 1 + i) → ((i : ℕ) × (i < m) × (basis i ≡ j) × F i) ⊎ (N × B) → N
outside N basis j m l above (inl (i, k, e, f)) = absurd (let a = above i in omega (arith, l, e, a))
outside N basis j m l above (inr (n, b)) = n

-- 0 over 1 is a fraction whose numerator is 0
zero-over : (x n d : ℤ) → x ≡ pos 0 → n ≡ pos 0 → x *ℤ d ≡ n *ℤ pos 1
zero-over x n d e g = ap (λ (v : ℤ). v *ℤ d) e ∙ sym (ap (λ (v : ℤ). v *ℤ pos 1) g ∙ none d)
  where
    none : (d : ℤ) → pos 0 *ℤ pos 1 ≡ pos 0 *ℤ d
    none d = omega (arith, ints)

-- each number of the list of 0 is 0, and small
at-zero : (j : ℕ) → at (pos 0 ∷ []) j ≡ pos 0
at-zero zero = refl
at-zero (suc j) = refl

-- the solution of the last tableau is 0, an integer
zero-solution : ScaledSolutionExceeds zero_program 0 → ⊥
unfolding program_of_question divisor_of first_tableau equation cost
zero-solution t =
    t.exceeds (pos 0 ∷ []) 1
    (record {
      positive = omega arith;
      each = λ j f l e. zero-over (at (pos 0 ∷ []) j) f.num f.den (at-zero j)
          (outside (f.num ≡ pos 0) t.ends.last.basis j 2
          (let k : length t.at ≡ 1 = t.ends.holds.length_is in omega (arith, l, k)) behind (t.ends.basic j f e));
    })
    (record {
      each = λ j l. subst (λ (v : ℤ). unsigned_abs v ≤ certificate_limit) (sym (at-zero j)) (omega arith);
    })
    (omega arith)
  where
    behind : (i : ℕ) → t.ends.last.basis i ≡ 1 + i
    behind i =
        ap (λ (u : Tableau). u.basis i)
        (sym (first-alone zero_program t.k t.ends.last t.ends.within t.ends.reached.is))

-- there is no dual of the program of A >= 0
false-true : false ≡ true → ⊥
false-true e = cc

zero-dual : ScaledDualExceeds zero_program 0 → ⊥
unfolding program_of_question divisor_of first_tableau equation cost
zero-dual t =
    false-true
    (subst (λ (u : Tableau). is_infeasible zero_program u ≡ true)
    (sym (first-alone zero_program t.k t.ends.last t.ends.within t.ends.reached.is)) t.ends.infeasible)

-- a table of 8 numbers isn't too wide
narrow : 40000000000 < 8 → ⊥
narrow l = omega (arith, l)

-- the linear program of A >= 0 hits no limit
zero-hits_no_limit : (c : Cause) → HitsLimit zero_program 0 c → ⊥
unfolding program_of_question divisor_of
zero-hits_no_limit (range k) (fits, t) = zero-range k t
zero-hits_no_limit (budget n) (fits, e, t) = zero-budget t
zero-hits_no_limit (wide n) (l, e) = narrow l
zero-hits_no_limit scale (fits, inl s) = zero-solution s
zero-hits_no_limit scale (fits, inr d) = zero-dual d

pub zero-solved : IsSolvedWithin 0 zero_program
unfolding program_of_question divisor_of
zero-solved = record {
  solution = record {
    x = at (pos 0 ∷ []);
    d = pos 1;
    solution = record {
      denominator = omega (arith, ints);
      equations = below-two _ refl refl;
      nonnegative = below-one _ (omega (arith, ints));
    };
  };
  hits_no_limit = record { each = zero-hits_no_limit };
}

-- the sequence of the program of A >= -1 goes on from its first tableau
minus-goes-on : ExceedsPivotLimit minus_program 0
unfolding program_of_question divisor_of first_tableau equation cost
minus-goes-on = record {
  last = first_tableau minus_program;
  reached = record { is = refl; before = λ i u l e. absurd (omega (arith, l)) };
  in_range = minus-in-range;
  following = pivot (first_tableau minus_program) 1 0;
  goes_on = refl;
}

-- a table of 8 numbers fits
fits-eight : 8 ≤ 40000000000
fits-eight = omega arith

pub minus-hit_limit : IsSolvedWithin 0 minus_program → ⊥
unfolding program_of_question divisor_of
minus-hit_limit h = h.hits_no_limit.each (budget 0) (fits-eight, refl, minus-goes-on)

-- that the rule without rows has no point is refuted
abbrev pub reset_empty : LinearProgram
reset_empty = goal_program (forms_at resetting 1).unknowns (combined (forms_at resetting 1) []) minus_one

pub reset-pointed : IsDual reset_empty (at (pos 0 ∷ pos 1 ∷ []))
unfolding program_of_question divisor_of
reset-pointed = record { columns = below-one _ (omega (arith, ints)); right = omega (arith, ints) }

minus-not-implied : IsImplied 0 (forms_at resetting 1) [] (fact 1 1 0 (negsuc 0)) → ⊥
minus-not-implied (inl s) = dual-excludes reset_empty (at (pos 0 ∷ pos 1 ∷ [])) reset-pointed s.solution
minus-not-implied (inr s) = minus-hit_limit s

pub pivots-worked : PivotsAreWorkedOut
unfolding program_of_question divisor_of
pivots-worked = record {
  equations_are = refl;
  solved = zero-solved;
  implied = inr zero-solved;
  with_a_solution = record {
    denominator = omega (arith, ints);
    equations = below-two _ refl refl;
    nonnegative = below-one _ (omega (arith, ints));
  };
  hit_limit = minus-hit_limit;
  not_implied = minus-not-implied;
}
