-- The first tableau is a tableau of the program.
use Rattle.std.proofs.Common.{◌≡◌, ◌≢◌, ℕ, ◌+◌, ◌-◌, ◌<◌, ◌≤◌, ap, arith, refl, sym, ◌∙◌, subst, ◌⊎◌, inl, inr}
use Rattle.std.specs.Prelude.{ℤ, pos, negsuc, ◌+ℤ◌, ◌-ℤ◌, ◌*ℤ◌, ◌≤ℤ◌, ◌<ℤ◌}
use Rattle.std.proofs.lemmas.Bool.{cases_lt}
use Rattle.std.proofs.lemmas.Int.{ints}
use Rattle.int_laws.specs.Sums.{sum_to}
use Rattle.int_laws.proofs.SumLaws.{sum_to-same, sum_to-single, sum_to-scale}
use Rattle.int_laws.proofs.RingLaws.{zero-mul_ℤ, one-mul_ℤ, mul-zero_ℤ, mul-one_ℤ, mul_assoc_ℤ}
use Rattle.linear_forms.specs.LinearProgram.{LinearProgram}
use Rattle.simplex_core.specs.Tableau.{artificial, unknowns, cost_row, equation, cost, first_tableau}
use Rattle.simplex_core.proofs.Regions.{equation-artificial, equation-other_artificial, equation-right, sign_of-right}
use Rattle.simplex_core.proofs.Regions.{first-row, first-cost}
use Rattle.simplex_core.proofs.Invariant.{weight, IsTableauOf}

-- the first scales are 1
pub first-scale : (p : LinearProgram) (i : ℕ) → (first_tableau p).scale i ≡ pos 1
unfolding first_tableau
first-scale p i = refl

-- the first basis consists of the artificial unknowns
pub first-basis : (p : LinearProgram) (i : ℕ) → (first_tableau p).basis i ≡ artificial p i
unfolding first_tableau
first-basis p i = refl

-- multiplying the equations by an artificial unknown's numbers gives its equation
unit-equation : (p : LinearProgram) (i j : ℕ) → i < p.rows → sum_to p.rows (λ k. equation p i (artificial p k) *ℤ equation p k j) ≡ equation p i j
unit-equation p i j l =
    sum_to-single p.rows i (λ k. equation p i (artificial p k) *ℤ equation p k j) l
    (λ k m d. zero-mul_ℤ _ _ (equation-other_artificial p i k m (λ e. d (sym e))))
    ∙ one-mul_ℤ _ _ (equation-artificial p i l)

-- multiplying the columns of the artificial unknowns by their costs gives the costs
unit-costs : (p : LinearProgram) (q k : ℕ) → k < p.rows → sum_to p.rows (λ i. cost p q (artificial p i) *ℤ equation p i (artificial p k)) ≡ cost p q (artificial p k)
unit-costs p q k l =
    sum_to-single p.rows k (λ i. cost p q (artificial p i) *ℤ equation p i (artificial p k)) l
    (λ i m d. mul-zero_ℤ _ _ (equation-other_artificial p i k l d))
    ∙ mul-one_ℤ _ _ (equation-artificial p k l)

-- the first reduced cost of an artificial unknown is 0
pub first-cost-artificial : (p : LinearProgram) (q k : ℕ) → k < p.rows → (first_tableau p).entry (cost_row p q) (artificial p k) ≡ pos 0
first-cost-artificial p q k l = first-cost p q (artificial p k) ∙ difference _ _ (unit-costs p q k l)
  where
    difference : (a b : ℤ) → b ≡ a → a -ℤ b ≡ pos 0
    difference a b e = omega (arith, ints)

-- the first multipliers are the negated costs of the artificial unknowns
first-weight : (p : LinearProgram) (q k : ℕ) → k < p.rows → weight p (first_tableau p) q k ≡ negsuc 0 *ℤ cost p q (artificial p k)
first-weight p q k l = difference _ _ _ (first-cost-artificial p q k l) (first-scale p (cost_row p q))
  where
    difference : (a s b : ℤ) → a ≡ pos 0 → s ≡ pos 1 → a -ℤ s *ℤ b ≡ negsuc 0 *ℤ b
    difference a s b e f = ap (λ (z : ℤ). a -ℤ z *ℤ b) f ∙ base a b e
      where
        base : (a b : ℤ) → a ≡ pos 0 → a -ℤ pos 1 *ℤ b ≡ negsuc 0 *ℤ b
        base a b e = omega (arith, ints)

-- the first cost rows are the costs and sums of multiples of the equations
first-costs_are : (p : LinearProgram) (q j : ℕ)
    → (first_tableau p).entry (cost_row p q) j
    ≡ (first_tableau p).scale (cost_row p q) *ℤ cost p q j +ℤ sum_to p.rows (λ k. weight p (first_tableau p) q k *ℤ equation p k j)
first-costs_are p q j =
    first-cost p q j
    ∙ regroup _ _ _ _ (first-scale p (cost_row p q))
    (sum_to-same p.rows (λ k. weight p (first_tableau p) q k *ℤ equation p k j) (λ k. negsuc 0 *ℤ (cost p q (artificial p k) *ℤ equation p k j))
    (λ k l. ap (λ (z : ℤ). z *ℤ equation p k j) (first-weight p q k l) ∙ mul_assoc_ℤ (negsuc 0) (cost p q (artificial p k)) (equation p k j))
    ∙ sum_to-scale p.rows (negsuc 0) (λ k. cost p q (artificial p k) *ℤ equation p k j))
  where
    regroup : (c b s w : ℤ) → s ≡ pos 1 → w ≡ negsuc 0 *ℤ b → c -ℤ b ≡ s *ℤ c +ℤ w
    regroup c b s w e f = base c b w f ∙ ap (λ (z : ℤ). z *ℤ c +ℤ w) (sym e)
      where
        base : (c b w : ℤ) → w ≡ negsuc 0 *ℤ b → c -ℤ b ≡ pos 1 *ℤ c +ℤ w
        base c b w f = omega (arith, ints)

-- the first tableau is a tableau of the program
pub first-is_tableau : (p : LinearProgram) → IsTableauOf p (first_tableau p)
first-is_tableau p = record {
  positive = λ i l. over_zero _ (first-scale p i);
  basic = λ i l. let b = first-basis p i in omega (arith, b);
  own = λ i l. ap (λ (j : ℕ). (first_tableau p).entry i j) (first-basis p i) ∙ (first-row p i (artificial p i) l ∙ (equation-artificial p i l ∙ sym (first-scale p i)));
  other = λ i k l m d. ap (λ (j : ℕ). (first_tableau p).entry i j) (first-basis p k) ∙ apart i k m d (cases_lt i p.rows);
  right = λ i l. subst (λ (z : ℤ). pos 0 ≤ℤ z) (sym (first-row p i (unknowns p) l ∙ equation-right p i)) (sign_of-right (p.right i));
  rows_are = λ i j l m. first-row p i j l ∙ (sym (unit-equation p i j l)
      ∙ sum_to-same p.rows (λ k. equation p i (artificial p k) *ℤ equation p k j) (λ k. (first_tableau p).entry i (artificial p k) *ℤ equation p k j)
      (λ k n. ap (λ (z : ℤ). z *ℤ equation p k j) (sym (first-row p i (artificial p k) l))));
  costs_are = λ q j l m. first-costs_are p q j;
  back = λ x d h i l. sum_to-same (unknowns p) (λ j. equation p i j *ℤ x j) (λ j. (first_tableau p).entry i j *ℤ x j)
      (λ j m. ap (λ (z : ℤ). z *ℤ x j) (sym (first-row p i j l)))
      ∙ (h i l ∙ ap (λ (z : ℤ). z *ℤ d) (first-row p i (unknowns p) l));
}
  where
    over_zero : (s : ℤ) → s ≡ pos 1 → pos 0 <ℤ s
    over_zero s e = omega (arith, ints)

    apart : (i k : ℕ) → k < p.rows → i ≢ k → (i < p.rows) ⊎ (p.rows ≤ i) → (first_tableau p).entry i (artificial p k) ≡ pos 0
    apart i k m d (inl l) = first-row p i (artificial p k) l ∙ equation-other_artificial p i k m d
    apart i k m d (inr l) =
        ap (λ (r : ℕ). (first_tableau p).entry r (artificial p k)) (whole i p.rows l) ∙ first-cost-artificial p (i - p.rows) k m
      where
        whole : (i m : ℕ) → m ≤ i → i ≡ m + (i - m)
        whole i m l = omega arith
