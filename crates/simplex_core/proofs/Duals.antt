-- At an end as infeasible the dual shows that there is no solution.
use Rattle.std.proofs.Common.{◌≡◌, ℕ, ◌<◌, ◌≤◌, ap, arith, refl, sym, ◌∙◌, subst, ◌⊎◌, inl, inr, [], ◌∷◌, true}
use Rattle.std.specs.Prelude.{ℤ, pos, negsuc, ◌+ℤ◌, ◌-ℤ◌, ◌*ℤ◌, ◌≤ℤ◌, ◌<ℤ◌, int_lt, nat_le, not, ◌&&◌}
use Rattle.std.proofs.lemmas.Int.{ints}
use Rattle.int_laws.specs.Sums.{sum_to, dot}
use Rattle.int_laws.specs.Polynomial.{variable, constant, ◌⊖◌, ◌⊗◌}
use Rattle.int_laws.proofs.Identities.{identity}
use Rattle.int_laws.proofs.OrderLaws.{mul-nonneg_ℤ, mul-positive_ℤ, lt-of-mul_ℤ}
use Rattle.int_laws.proofs.SumLaws.{sum_to-positive, sum_to-same, sum_to-scale}
use Rattle.std.proofs.lemmas.Bool.{cases_lt, leb-true}
use Rattle.simplex_core.proofs.Searches.{and-both, every-each, some-one}
use Rattle.simplex_core.proofs.Choices.{int_lt-true, int_lt-false, not-true}
use Rattle.linear_forms.specs.LinearProgram.{LinearProgram, IsDual}
use Rattle.simplex_core.specs.Tableau.{Tableau, artificial, unknowns, cost_row, sign_of, equation, cost}
use Rattle.simplex_core.specs.Bland.{is_infeasible, dual_of}
use Rattle.simplex_core.proofs.Regions.{equation-column, equation-right, cost-none, cost-artificial}
use Rattle.simplex_core.proofs.Invariant.{weight, IsTableauOf}
use Rattle.simplex_core.proofs.Points.{CommonScale, common_scale, dot-point}
use Rattle.simplex_core.proofs.Values.{row-value, basic_value, basic_point, basic_value-nonneg, basic-solves, no_term}

-- multipliers with signs times the program's numbers are the multipliers times the equations' numbers
pub signed-dot : (m : ℕ) (w sign a eq : ℕ → ℤ) → ((k : ℕ) → k < m → eq k ≡ sign k *ℤ a k) → dot m (λ k. sign k *ℤ w k) a ≡ dot m w eq
signed-dot m w sign a eq h =
    sum_to-same m (λ k. (sign k *ℤ w k) *ℤ a k) (λ k. w k *ℤ eq k) (λ k l. moved (sign k) (w k) (a k) ∙ ap (λ (z : ℤ). w k *ℤ z) (sym (h k l)))
  where
    moved : (s w a : ℤ) → (s *ℤ w) *ℤ a ≡ w *ℤ (s *ℤ a)
    moved s w a = identity (s ∷ w ∷ a ∷ []) ((variable 0 ⊗ variable 1) ⊗ variable 2) (variable 1 ⊗ (variable 0 ⊗ variable 2)) refl

-- negated multipliers times numbers are the negation of the multipliers times the numbers
pub negated-dot : (m : ℕ) (w a : ℕ → ℤ) → dot m (λ k. pos 0 -ℤ w k) a ≡ pos 0 -ℤ dot m w a
negated-dot m w a =
    sum_to-same m (λ k. (pos 0 -ℤ w k) *ℤ a k) (λ k. negsuc 0 *ℤ (w k *ℤ a k)) (λ k l. moved (w k) (a k))
    ∙ (sum_to-scale m (negsuc 0) (λ k. w k *ℤ a k) ∙ back (dot m w a))
  where
    moved : (w a : ℤ) → (pos 0 -ℤ w) *ℤ a ≡ negsuc 0 *ℤ (w *ℤ a)
    moved w a = identity (w ∷ a ∷ []) ((constant (pos 0) ⊖ variable 0) ⊗ variable 1) (constant (negsuc 0) ⊗ (variable 0 ⊗ variable 1)) refl

    back : (z : ℤ) → negsuc 0 *ℤ z ≡ pos 0 -ℤ z
    back z = omega (arith, ints)

-- the dual's number is the negated multiplier of the equation in the cost row of the artificial unknowns, with the
-- row's sign
dual_is : (p : LinearProgram) (t : Tableau) (k : ℕ) → k < p.rows → dual_of p t k ≡ sign_of (p.right k) *ℤ (pos 0 -ℤ weight p t 0 k)
dual_is p t k l = ap (λ (z : ℤ). sign_of (p.right k) *ℤ z) (regroup _ _ _ (cost-artificial p (artificial p k) (omega arith)))
  where
    regroup : (s e o : ℤ) → o ≡ pos 1 → s -ℤ e ≡ pos 0 -ℤ (e -ℤ s *ℤ o)
    regroup s e o f = base ∙ ap (λ (z : ℤ). pos 0 -ℤ (e -ℤ s *ℤ z)) (sym f)
      where
        base : s -ℤ e ≡ pos 0 -ℤ (e -ℤ s *ℤ pos 1)
        base = omega (arith, ints)

-- the dual times the program's numbers, in terms of the equations
dual-dot : (p : LinearProgram) (t : Tableau) (a eq : ℕ → ℤ) → ((k : ℕ) → k < p.rows → eq k ≡ sign_of (p.right k) *ℤ a k)
    → dot p.rows (dual_of p t) a ≡ pos 0 -ℤ dot p.rows (weight p t 0) eq
dual-dot p t a eq h =
    sum_to-same p.rows (λ k. dual_of p t k *ℤ a k) (λ k. (sign_of (p.right k) *ℤ (pos 0 -ℤ weight p t 0 k)) *ℤ a k) (λ k l. ap (λ (z : ℤ). z *ℤ a k) (dual_is p t k l))
    ∙ (signed-dot p.rows (λ k. pos 0 -ℤ weight p t 0 k) (λ k. sign_of (p.right k)) a eq h ∙ negated-dot p.rows (weight p t 0) eq)

-- an end as infeasible: in the cost row of the artificial unknowns no reduced cost is negative, and an artificial
-- unknown is above 0
pub record EndsInfeasible (p : LinearProgram) (t : Tableau) : Type 0 where
  reduced : (j : ℕ) → j < p.columns → pos 0 ≤ℤ t.entry (cost_row p 0) j
  row : ℕ
  row_is : row < p.rows
  artificial : p.columns ≤ t.basis row
  positive : pos 0 <ℤ t.entry row (unknowns p)

-- if the test of the end as infeasible passes, it is one
ends_infeasible : (p : LinearProgram) (t : Tableau) → is_infeasible p t ≡ true → EndsInfeasible p t
ends_infeasible p t h =
    let parts = and-both _ _ h in
    let found = some-one p.rows (λ i. nat_le p.columns (t.basis i) && int_lt (pos 0) (t.entry i (unknowns p))) parts.1 in
    let both = and-both _ _ found.2 in
    record {
      reduced = λ j l. int_lt-false _ _ (not-true _ (every-each p.columns (λ j. not (int_lt (t.entry (cost_row p 0) j) (pos 0))) parts.0 j l));
      row = found.0;
      row_is = found.1;
      artificial = leb-true _ _ both.0;
      positive = int_lt-true _ _ both.1;
    }

-- the artificial unknowns of the basic solution add up to more than 0
pub artificials-positive : (p : LinearProgram) (t : Tableau) (s : CommonScale p.rows t.scale) → IsTableauOf p t → EndsInfeasible p t
    → pos 0 <ℤ dot (unknowns p) (cost p 0) (basic_point p t s)
artificials-positive p t s h e =
    subst (λ (z : ℤ). pos 0 <ℤ z) (sym (dot-point p.rows (unknowns p) t.basis (basic_value p t s) (cost p 0) h.basic))
    (sum_to-positive p.rows e.row (λ i. cost p 0 (t.basis i) *ℤ basic_value p t s i) e.row_is
    (λ i l. mul-nonneg_ℤ _ _ (cost_nonneg (t.basis i)) (basic_value-nonneg p t s h i l))
    (subst (λ (z : ℤ). pos 0 <ℤ (z *ℤ basic_value p t s e.row)) (sym (cost-artificial p (t.basis e.row) e.artificial))
    (one_times _ (mul-positive_ℤ _ _ e.positive (s.factors e.row e.row_is)))))
  where
    one_times : (z : ℤ) → pos 0 <ℤ z → pos 0 <ℤ (pos 1 *ℤ z)
    one_times z l = omega (arith, ints)

    cost_nonneg : (j : ℕ) → pos 0 ≤ℤ cost p 0 j
    cost_nonneg j = go (cases_lt j p.columns)
      where
        from : (z w : ℤ) → z ≡ w → pos 0 ≤ℤ w → pos 0 ≤ℤ z
        from z w e l = omega (arith, ints)

        go : (j < p.columns) ⊎ (p.columns ≤ j) → pos 0 ≤ℤ cost p 0 j
        go (inl l) = from (cost p 0 j) (pos 0) (cost-none p j l) (omega (arith, ints))
        go (inr l) = from (cost p 0 j) (pos 1) (cost-artificial p j l) (omega (arith, ints))

-- at an end as infeasible the dual shows that there is no solution
pub infeasible-dual : (p : LinearProgram) (t : Tableau) → IsTableauOf p t → is_infeasible p t ≡ true → IsDual p (dual_of p t)
infeasible-dual p t h ends = record { columns = columns; right = right }
  where
    e : EndsInfeasible p t
    e = ends_infeasible p t ends

    s : CommonScale p.rows t.scale
    s = common_scale p.rows t.scale (λ i m. h.positive i (omega arith))

    x : ℕ → ℤ
    x = basic_point p t s

    columns : (j : ℕ) → j < p.columns → dot p.rows (dual_of p t) (λ i. p.entry i j) ≤ℤ pos 0
    columns j l =
        at_most (dot p.rows (dual_of p t) (λ i. p.entry i j)) (sum_to p.rows (λ k. weight p t 0 k *ℤ equation p k j)) (t.entry (cost_row p 0) j) (t.scale (cost_row p 0)) (cost p 0 j)
        (dual-dot p t (λ i. p.entry i j) (λ i. equation p i j) (λ k m. equation-column p k j l))
        (h.costs_are 0 j (omega arith) (omega arith)) (cost-none p j l) (e.reduced j l)
      where
        at_most : (y w r c o : ℤ) → y ≡ pos 0 -ℤ w → r ≡ c *ℤ o +ℤ w → o ≡ pos 0 → pos 0 ≤ℤ r → y ≤ℤ pos 0
        at_most y w r c o a b z l = omega (arith, ints, a, b, ap (λ (v : ℤ). c *ℤ v) z)

    value : pos 0 ≡ t.scale (cost_row p 0) *ℤ dot (unknowns p) (cost p 0) x +ℤ dot p.rows (weight p t 0) (λ k. equation p k (unknowns p)) *ℤ s.d
    value =
        sym (no_term p t (basic_value p t s) 0 h (omega arith))
        ∙ row-value p.rows (unknowns p) (t.entry (cost_row p 0)) (cost p 0) (weight p t 0) (equation p) (t.scale (cost_row p 0)) (λ k. equation p k (unknowns p)) x s.d
        (λ j m. h.costs_are 0 j (omega arith) m) (basic-solves p t s h)

    right : pos 0 <ℤ dot p.rows (dual_of p t) p.right
    right =
        subst (λ (z : ℤ). pos 0 <ℤ z) (sym (dual-dot p t p.right (λ k. equation p k (unknowns p)) (λ k m. equation-right p k)))
        (over_zero (t.scale (cost_row p 0) *ℤ dot (unknowns p) (cost p 0) x) (dot p.rows (weight p t 0) (λ k. equation p k (unknowns p))) value
        (mul-positive_ℤ (t.scale (cost_row p 0)) (dot (unknowns p) (cost p 0) x) (h.positive (cost_row p 0) (omega arith)) (artificials-positive p t s h e)))
      where
        over_zero : (v w : ℤ) → pos 0 ≡ v +ℤ w *ℤ s.d → pos 0 <ℤ v → pos 0 <ℤ (pos 0 -ℤ w)
        over_zero v w a b =
            lt-of-mul_ℤ s.d (pos 0) (pos 0 -ℤ w) s.positive
            (from (s.d *ℤ (pos 0 -ℤ w)) (identity (s.d ∷ w ∷ []) (variable 0 ⊗ (constant (pos 0) ⊖ variable 1)) (constant (pos 0) ⊖ variable 1 ⊗ variable 0) refl))
          where
            from : (z : ℤ) → z ≡ pos 0 -ℤ w *ℤ s.d → (s.d *ℤ pos 0) <ℤ z
            from z f = omega (arith, ints)
