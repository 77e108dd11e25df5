-- The value of a cost row at solutions of the equations, and the basic solution of a tableau.
use Rattle.std.proofs.Common.{◌≡◌, ℕ, ◌<◌, ap, arith, refl, sym, ◌∙◌, [], ◌∷◌}
use Rattle.std.specs.Prelude.{ℤ, pos, ◌+ℤ◌, ◌*ℤ◌, ◌≤ℤ◌, ◌<ℤ◌}
use Rattle.std.proofs.lemmas.Int.{ints}
use Rattle.int_laws.specs.Sums.{sum_to, dot}
use Rattle.int_laws.specs.Polynomial.{variable, ◌⊗◌}
use Rattle.int_laws.proofs.Identities.{identity_by_one}
use Rattle.int_laws.proofs.RingLaws.{zero-mul_ℤ, add-mul_ℤ, mul_assoc_ℤ}
use Rattle.int_laws.proofs.OrderLaws.{mul-nonneg_ℤ}
use Rattle.int_laws.proofs.SumLaws.{sum_to-same, sum_to-add, sum_to-scale, sum_to-scale_behind, sum_to-single}
use Rattle.int_laws.proofs.SumLaws.{sum_to-zero}
use Rattle.int_laws.proofs.Duality.{dot-dot}
use Rattle.linear_forms.specs.LinearProgram.{LinearProgram}
use Rattle.simplex_core.specs.Tableau.{Tableau, unknowns, cost_row}
use Rattle.simplex_core.proofs.Invariant.{SolvesEquations, IsTableauOf}
use Rattle.simplex_core.proofs.Points.{CommonScale, point, dot-point}

-- the value, at a solution of the equations, of a row that is scale times the costs plus a sum of multiples of the
-- equations, over the first n columns
pub row-value : (m n : ℕ) (g c w : ℕ → ℤ) (eq : ℕ → ℕ → ℤ) (s : ℤ) (r x : ℕ → ℤ) (d : ℤ)
    → ((j : ℕ) → j < n → g j ≡ s *ℤ c j +ℤ sum_to m (λ k. w k *ℤ eq k j))
    → ((k : ℕ) → k < m → dot n (eq k) x ≡ r k *ℤ d)
    → dot n g x ≡ s *ℤ dot n c x +ℤ dot m w r *ℤ d
row-value m n g c w eq s r x d rows solves =
    sum_to-same n (λ j. g j *ℤ x j) (λ j. s *ℤ (c j *ℤ x j) +ℤ dot m w (λ k. eq k j) *ℤ x j)
    (λ j l. ap (λ (z : ℤ). z *ℤ x j) (rows j l) ∙ (add-mul_ℤ (s *ℤ c j) (dot m w (λ k. eq k j)) (x j)
    ∙ ap (λ (z : ℤ). z +ℤ dot m w (λ k. eq k j) *ℤ x j) (mul_assoc_ℤ s (c j) (x j))))
    ∙ (sum_to-add n (λ j. s *ℤ (c j *ℤ x j)) (λ j. dot m w (λ k. eq k j) *ℤ x j)
    ∙ (ap (λ (z : ℤ). z +ℤ dot n (λ j. dot m w (λ k. eq k j)) x) (sum_to-scale n s (λ j. c j *ℤ x j))
    ∙ ap (λ (z : ℤ). s *ℤ dot n c x +ℤ z)
    (sym (dot-dot m n eq w x)
    ∙ (sum_to-same m (λ k. w k *ℤ dot n (eq k) x) (λ k. (w k *ℤ r k) *ℤ d)
    (λ k l. ap (λ (z : ℤ). w k *ℤ z) (solves k l) ∙ sym (mul_assoc_ℤ (w k) (r k) d))
    ∙ sum_to-scale_behind m d (λ k. w k *ℤ r k)))))

-- the values of the basic unknowns: each row's right side, over the common scale
abbrev pub basic_value : (p : LinearProgram) (t : Tableau) → CommonScale p.rows t.scale → ℕ → ℤ
basic_value p t c i = t.entry i (unknowns p) *ℤ c.q i

-- the basic solution
abbrev pub basic_point : (p : LinearProgram) (t : Tableau) → CommonScale p.rows t.scale → ℕ → ℤ
basic_point p t c = point p.rows t.basis (basic_value p t c)

-- the basic values are at least 0
pub basic_value-nonneg : (p : LinearProgram) (t : Tableau) (c : CommonScale p.rows t.scale) → IsTableauOf p t → (i : ℕ) → i < p.rows → pos 0 ≤ℤ basic_value p t c i
basic_value-nonneg p t c h i l = mul-nonneg_ℤ _ _ (h.right i l) (weaker _ (c.factors i l))
  where
    weaker : (z : ℤ) → pos 0 <ℤ z → pos 0 ≤ℤ z
    weaker z l = omega (arith, ints)

-- if the other basis columns are 0 in a row, the row times a point of the basis is the row's own term
pub own_term : (p : LinearProgram) (t : Tableau) (v : ℕ → ℤ) (i : ℕ) → IsTableauOf p t → i < p.rows
    → dot (unknowns p) (t.entry i) (point p.rows t.basis v) ≡ t.scale i *ℤ v i
own_term p t v i h l =
    dot-point p.rows (unknowns p) t.basis v (t.entry i) h.basic
    ∙ (sum_to-single p.rows i (λ k. t.entry i (t.basis k) *ℤ v k) l
    (λ k m d. zero-mul_ℤ _ _ (h.other i k (omega arith) m (λ e. d (sym e))))
    ∙ ap (λ (z : ℤ). z *ℤ v i) (h.own i l))

-- a cost row times a point of the basis is 0
pub no_term : (p : LinearProgram) (t : Tableau) (v : ℕ → ℤ) (q : ℕ) → IsTableauOf p t → q < 3
    → dot (unknowns p) (t.entry (cost_row p q)) (point p.rows t.basis v) ≡ pos 0
no_term p t v q h l =
    dot-point p.rows (unknowns p) t.basis v (t.entry (cost_row p q)) h.basic
    ∙ sum_to-zero p.rows (λ k. t.entry (cost_row p q) (t.basis k) *ℤ v k)
    (λ k m. zero-mul_ℤ _ _ (h.other (cost_row p q) k (omega arith) m (omega arith)))

-- the basic solution solves the equations
pub basic-solves : (p : LinearProgram) (t : Tableau) (c : CommonScale p.rows t.scale) → IsTableauOf p t → SolvesEquations p (basic_point p t c) c.d
basic-solves p t c h =
    h.back (basic_point p t c) c.d (λ i l. own_term p t (basic_value p t c) i h l ∙ scaled (t.scale i) (t.entry i (unknowns p)) (c.q i) (c.times i l))
  where
    scaled : (s b q : ℤ) → q *ℤ s ≡ c.d → s *ℤ (b *ℤ q) ≡ b *ℤ c.d
    scaled s b q e = identity_by_one (s ∷ b ∷ q ∷ c.d ∷ []) (variable 0 ⊗ (variable 1 ⊗ variable 2)) (variable 1 ⊗ variable 3)
        (variable 1) (variable 2 ⊗ variable 0) (variable 3) e refl
