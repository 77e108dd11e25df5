-- At an end as optimal the basic solution solves the program, and has prices.
use Rattle.std.proofs.Common.{◌≡◌, ℕ, ◌+◌, ◌<◌, ◌≤◌, ap, arith, refl, sym, ◌∙◌, [], ◌∷◌, Bool, true, false, Option}
use Rattle.std.proofs.Common.{Some, None}
use Rattle.std.specs.Prelude.{ℤ, pos, ◌+ℤ◌, ◌*ℤ◌, ◌≤ℤ◌, int_lt, nat_le, not, ◌&&◌}
use Rattle.std.proofs.lemmas.Int.{ints}
use Rattle.std.proofs.lemmas.Bool.{le-leb}
use Rattle.int_laws.specs.Sums.{dot}
use Rattle.int_laws.specs.Polynomial.{variable, constant, ◌⊖◌, ◌⊗◌}
use Rattle.int_laws.specs.NormalForm.{is_zero}
use Rattle.int_laws.proofs.Identities.{identity_by_two}
use Rattle.int_laws.proofs.RingLaws.{zero-mul_ℤ, mul-zero_ℤ, mul_assoc_ℤ}
use Rattle.int_laws.proofs.SumLaws.{sum_to-same, sum_to-scale, sum_to-split, sum_to-zero}
use Rattle.linear_forms.specs.LinearProgram.{LinearProgram, IsSolution}
use Rattle.simplex_core.specs.Search.{every, some, or_else, least}
use Rattle.simplex_core.specs.Tableau.{Tableau, unknowns, cost_row, sign_of, equation}
use Rattle.simplex_core.specs.Bland.{may_enter, entering, is_infeasible}
use Rattle.simplex_core.proofs.Searches.{second_fails, both-and, each-every, some-none, least-none}
use Rattle.simplex_core.proofs.Regions.{equation-column, equation-right, sign_of-square}
use Rattle.simplex_core.proofs.Invariant.{IsTableauOf, SolvesEquations}
use Rattle.simplex_core.proofs.Points.{CommonScale, point-nonneg, point-zero}
use Rattle.simplex_core.proofs.Values.{basic_value, basic_point, basic_value-nonneg, basic-solves}
use Rattle.simplex_core.proofs.Choices.{int_lt-false, not-false}

-- an end as optimal: no column may enter, and no artificial unknown is above 0
pub record EndsOptimal (p : LinearProgram) (t : Tableau) : Type 0 where
  pub none : (j : ℕ) → j < p.columns → pos 0 ≤ℤ t.entry (cost_row p 0) j
  pub first : (j : ℕ) → j < p.columns → t.entry (cost_row p 0) j ≡ pos 0 → pos 0 ≤ℤ t.entry (cost_row p 1) j
  pub second : (j : ℕ) → j < p.columns → t.entry (cost_row p 0) j ≡ pos 0 → t.entry (cost_row p 1) j ≡ pos 0 → pos 0 ≤ℤ t.entry (cost_row p 2) j
  pub artificials : (i : ℕ) → i < p.rows → p.columns ≤ t.basis i → t.entry i (unknowns p) ≡ pos 0

-- if a conjunction fails and its second part holds, the first part fails
other_fails : (a b : Bool) → (a && b) ≡ false → b ≡ true → a ≡ false
other_fails true b h k = cc
other_fails false b h k = refl

-- if no column may enter, none may enter by any cost row
none_enters : (p : LinearProgram) (t : Tableau) → entering p t ≡ None
    → (least p.columns (may_enter p t 0) ≡ None) × (least p.columns (may_enter p t 1) ≡ None) × (least p.columns (may_enter p t 2) ≡ None)
none_enters p t h = go (least p.columns (may_enter p t 0)) (least p.columns (may_enter p t 1)) refl refl h
  where
    go : (a b : Option ℕ) → least p.columns (may_enter p t 0) ≡ a → least p.columns (may_enter p t 1) ≡ b
        → or_else a (or_else b (least p.columns (may_enter p t 2))) ≡ None
        → (least p.columns (may_enter p t 0) ≡ None) × (least p.columns (may_enter p t 1) ≡ None) × (least p.columns (may_enter p t 2) ≡ None)
    go (Some i) b ea eb e = cc
    go None (Some j) ea eb e = cc
    go None None ea eb e = (ea, eb, e)

-- if the tests of the end as optimal pass, it is one
pub ends_optimal : (p : LinearProgram) (t : Tableau) → IsTableauOf p t → is_infeasible p t ≡ false → entering p t ≡ None → EndsOptimal p t
ends_optimal p t h feasible done = record { none = none; first = first; second = second; artificials = artificials }
  where
    empty : (least p.columns (may_enter p t 0) ≡ None) × (least p.columns (may_enter p t 1) ≡ None) × (least p.columns (may_enter p t 2) ≡ None)
    empty = none_enters p t done

    none : (j : ℕ) → j < p.columns → pos 0 ≤ℤ t.entry (cost_row p 0) j
    none j l = int_lt-false (t.entry (cost_row p 0) j) (pos 0) (other_fails (int_lt (t.entry (cost_row p 0) j) (pos 0)) true (least-none p.columns (may_enter p t 0) empty.0 j l) refl)

    first : (j : ℕ) → j < p.columns → t.entry (cost_row p 0) j ≡ pos 0 → pos 0 ≤ℤ t.entry (cost_row p 1) j
    first j l z = int_lt-false (t.entry (cost_row p 1) j) (pos 0)
        (other_fails (int_lt (t.entry (cost_row p 1) j) (pos 0)) (is_zero (t.entry (cost_row p 0) j)) (least-none p.columns (may_enter p t 1) empty.1 j l) (ap is_zero z))

    second : (j : ℕ) → j < p.columns → t.entry (cost_row p 0) j ≡ pos 0 → t.entry (cost_row p 1) j ≡ pos 0 → pos 0 ≤ℤ t.entry (cost_row p 2) j
    second j l z w = int_lt-false (t.entry (cost_row p 2) j) (pos 0)
        (other_fails (int_lt (t.entry (cost_row p 2) j) (pos 0)) (is_zero (t.entry (cost_row p 0) j) && is_zero (t.entry (cost_row p 1) j))
        (least-none p.columns (may_enter p t 2) empty.2 j l)
        (both-and (is_zero (t.entry (cost_row p 0) j)) (is_zero (t.entry (cost_row p 1) j)) (ap is_zero z) (ap is_zero w)))

    all : every p.columns (λ j. not (int_lt (t.entry (cost_row p 0) j) (pos 0))) ≡ true
    all = each-every p.columns (λ j. not (int_lt (t.entry (cost_row p 0) j) (pos 0)))
        (λ j l. not-false (int_lt (t.entry (cost_row p 0) j) (pos 0)) (other_fails (int_lt (t.entry (cost_row p 0) j) (pos 0)) true (least-none p.columns (may_enter p t 0) empty.0 j l) refl))

    over : ℕ → Bool
    over i = nat_le p.columns (t.basis i) && int_lt (pos 0) (t.entry i (unknowns p))

    no_over : some p.rows over ≡ false
    no_over = second_fails (every p.columns (λ j. not (int_lt (t.entry (cost_row p 0) j) (pos 0)))) (some p.rows over) feasible all

    artificials : (i : ℕ) → i < p.rows → p.columns ≤ t.basis i → t.entry i (unknowns p) ≡ pos 0
    artificials i l m =
        zero_of (t.entry i (unknowns p)) (h.right i l)
        (int_lt-false (pos 0) (t.entry i (unknowns p)) (second_fails (nat_le p.columns (t.basis i)) (int_lt (pos 0) (t.entry i (unknowns p))) (some-none p.rows over no_over i l) (le-leb p.columns (t.basis i) m)))
      where
        zero_of : (z : ℤ) → pos 0 ≤ℤ z → z ≤ℤ pos 0 → z ≡ pos 0
        zero_of z a b = omega (arith, ints)

-- at an end as optimal the artificial unknowns of the basic solution are 0
pub artificials-zero : (p : LinearProgram) (t : Tableau) (s : CommonScale p.rows t.scale) → EndsOptimal p t → (j : ℕ) → p.columns ≤ j → basic_point p t s j ≡ pos 0
artificials-zero p t s e j l =
    point-zero p.rows t.basis (basic_value p t s) j (λ i m b. zero-mul_ℤ (t.entry i (unknowns p)) (s.q i) (e.artificials i m (omega (arith, b))))

-- if the artificial unknowns are 0, a product over all unknowns is one over the program's
pub front-dot : (p : LinearProgram) (a x : ℕ → ℤ) → ((j : ℕ) → p.columns ≤ j → x j ≡ pos 0) → dot (unknowns p) a x ≡ dot p.columns a x
front-dot p a x h =
    sum_to-split p.columns p.rows (λ j. a j *ℤ x j)
    ∙ plus_zero _ _ (sum_to-zero p.rows (λ j. a (p.columns + j) *ℤ x (p.columns + j)) (λ j _. mul-zero_ℤ _ _ (h (p.columns + j) (omega arith))))
  where
    plus_zero : (a b : ℤ) → b ≡ pos 0 → a +ℤ b ≡ a
    plus_zero a b e = omega (arith, ints)

-- if the artificial unknowns are 0, a solution of the equations solves the program
pub solves-program : (p : LinearProgram) (x : ℕ → ℤ) (d : ℤ) → SolvesEquations p x d → ((j : ℕ) → p.columns ≤ j → x j ≡ pos 0)
    → (i : ℕ) → i < p.rows → dot p.columns (p.entry i) x ≡ p.right i *ℤ d
solves-program p x d h z i l =
    cleared (sign_of (p.right i)) (dot p.columns (p.entry i) x) (p.right i) (sign_of-square (p.right i))
    (sym (sum_to-scale p.columns (sign_of (p.right i)) (λ j. p.entry i j *ℤ x j))
    ∙ (sum_to-same p.columns (λ j. sign_of (p.right i) *ℤ (p.entry i j *ℤ x j)) (λ j. equation p i j *ℤ x j)
    (λ j m. sym (mul_assoc_ℤ (sign_of (p.right i)) (p.entry i j) (x j)) ∙ ap (λ (v : ℤ). v *ℤ x j) (sym (equation-column p i j m)))
    ∙ (sym (front-dot p (equation p i) x z) ∙ (h i l ∙ ap (λ (v : ℤ). v *ℤ d) (equation-right p i)))))
  where
    cleared : (s y b : ℤ) → s *ℤ s ≡ pos 1 → s *ℤ y ≡ (s *ℤ b) *ℤ d → y ≡ b *ℤ d
    cleared s y b one e =
        identity_by_two (s ∷ y ∷ b ∷ d ∷ []) (variable 1) (variable 2 ⊗ variable 3)
        (variable 2 ⊗ variable 3 ⊖ variable 1) (variable 0 ⊗ variable 0) (constant (pos 1))
        (variable 0) (variable 0 ⊗ variable 1) ((variable 0 ⊗ variable 2) ⊗ variable 3) one e refl

-- at an end as optimal the basic solution solves the program
pub optimal-solution : (p : LinearProgram) (t : Tableau) (s : CommonScale p.rows t.scale) → IsTableauOf p t → EndsOptimal p t → IsSolution p (basic_point p t s) s.d
optimal-solution p t s h e = record {
  denominator = s.positive;
  equations = solves-program p (basic_point p t s) s.d (basic-solves p t s h) (artificials-zero p t s e);
  nonnegative = λ j l. point-nonneg p.rows t.basis (basic_value p t s) (basic_value-nonneg p t s h) j;
}
