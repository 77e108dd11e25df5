-- The direction of a column at a tableau: its unknown grows, and the basic unknowns change with it.
use Rattle.std.proofs.Common.{◌≡◌, ◌≢◌, ℕ, suc, ◌<◌, ap, arith, refl, sym, ◌∙◌, [], ◌∷◌}
use Rattle.std.specs.Prelude.{ℤ, pos, ◌+ℤ◌, ◌-ℤ◌, ◌*ℤ◌}
use Rattle.std.proofs.lemmas.Int.{ints}
use Rattle.int_laws.specs.Sums.{sum_to, dot}
use Rattle.int_laws.specs.Polynomial.{variable, constant, ◌⊕◌, ◌⊖◌, ◌⊗◌}
use Rattle.int_laws.proofs.Identities.{identity_by_one}
use Rattle.int_laws.proofs.RingLaws.{mul-add_ℤ, zero-mul_ℤ}
use Rattle.int_laws.proofs.SumLaws.{sum_to-same, sum_to-add, sum_to-single, sum_to-zero}
use Rattle.linear_forms.specs.LinearProgram.{LinearProgram}
use Rattle.simplex_core.specs.Tableau.{Tableau, unknowns, cost_row}
use Rattle.simplex_core.proofs.Points.{CommonScale, common_scale, point, dot-point}
use Rattle.simplex_core.proofs.Rays.{ray, ray_value}
use Rattle.bland_end.proofs.Canonical.{IsCanonical}
use Rattle.bland_end.proofs.Kernels.{cost_at, Vanishes}

-- a common multiple of the scales of a tableau's rows
abbrev pub scales_of : (p : LinearProgram) (t : Tableau) → IsCanonical p t → CommonScale p.rows t.scale
scales_of p t h = common_scale p.rows t.scale (λ i l. h.positive i (omega arith))

-- the product of numbers and a direction: the column's own term, and one for each row
pub direction-dot : (p : LinearProgram) (t : Tableau) (s : CommonScale p.rows t.scale) (c : ℕ) (a : ℕ → ℤ) → IsCanonical p t
    → c < suc (unknowns p)
    → dot (suc (unknowns p)) a (ray p t s c) ≡ a c *ℤ s.d +ℤ sum_to p.rows (λ i. a (t.basis i) *ℤ ray_value p t s c i)
direction-dot p t s c a h l =
    sum_to-same n (λ j. a j *ℤ ray p t s c j) (λ j. a j *ℤ own j +ℤ a j *ℤ others j) (λ j _. mul-add_ℤ (a j) (own j) (others j))
    ∙ (sum_to-add n (λ j. a j *ℤ own j) (λ j. a j *ℤ others j)
    ∙ both _ _ _ _ (dot-point 1 n (λ _. c) (λ _. s.d) a (λ i _. l))
    (dot-point p.rows n t.basis (ray_value p t s c) a (λ i m. let b = h.basic i m in omega arith)))
  where
    n : ℕ
    n = suc (unknowns p)

    own : ℕ → ℤ
    own = point 1 (λ _. c) (λ _. s.d)

    others : ℕ → ℤ
    others = point p.rows t.basis (ray_value p t s c)

    both : (v w a b : ℤ) → v ≡ pos 0 +ℤ a → w ≡ b → v +ℤ w ≡ a +ℤ b
    both v w a b e f = omega (arith, ints)

-- that product if only the basic column of row i has a nonzero number
pub direction-own : (p : LinearProgram) (t : Tableau) (s : CommonScale p.rows t.scale) (c i : ℕ) (a : ℕ → ℤ) → IsCanonical p t
    → c < suc (unknowns p) → i < p.rows → ((k : ℕ) → k < p.rows → k ≢ i → a (t.basis k) ≡ pos 0)
    → dot (suc (unknowns p)) a (ray p t s c) ≡ a c *ℤ s.d +ℤ a (t.basis i) *ℤ ray_value p t s c i
direction-own p t s c i a h l m zero =
    direction-dot p t s c a h l
    ∙ ap (λ (z : ℤ). a c *ℤ s.d +ℤ z)
    (sum_to-single p.rows i (λ k. a (t.basis k) *ℤ ray_value p t s c k) m (λ k n d. zero-mul_ℤ _ _ (zero k n d)))

-- that product if no basic column has a nonzero number
pub direction-none : (p : LinearProgram) (t : Tableau) (s : CommonScale p.rows t.scale) (c : ℕ) (a : ℕ → ℤ) → IsCanonical p t
    → c < suc (unknowns p) → ((k : ℕ) → k < p.rows → a (t.basis k) ≡ pos 0)
    → dot (suc (unknowns p)) a (ray p t s c) ≡ a c *ℤ s.d
direction-none p t s c a h l zero =
    direction-dot p t s c a h l
    ∙ (ap (λ (z : ℤ). a c *ℤ s.d +ℤ z) (sum_to-zero p.rows (λ k. a (t.basis k) *ℤ ray_value p t s c k) (λ k n. zero-mul_ℤ _ _ (zero k n)))
    ∙ plus_zero (a c *ℤ s.d))
  where
    plus_zero : (z : ℤ) → z +ℤ pos 0 ≡ z
    plus_zero z = omega (arith, ints)

-- the rows of a tableau are 0 along its directions
pub direction-vanishes : (p : LinearProgram) (t : Tableau) (s : CommonScale p.rows t.scale) (c : ℕ) → IsCanonical p t
    → c < suc (unknowns p) → Vanishes p t (ray p t s c)
direction-vanishes p t s c h l i m =
    direction-own p t s c i (t.entry i) h l m (λ k n d. h.other i k (omega arith) n (λ e. d (sym e)))
    ∙ (ap (λ (z : ℤ). t.entry i c *ℤ s.d +ℤ z *ℤ ray_value p t s c i) (h.own i m)
    ∙ cancels (t.entry i c) (t.scale i) (s.q i) (s.times i m))
  where
    cancels : (a e q : ℤ) → q *ℤ e ≡ s.d → a *ℤ s.d +ℤ e *ℤ ((pos 0 -ℤ a) *ℤ q) ≡ pos 0
    cancels a e q f = identity_by_one (a ∷ e ∷ q ∷ s.d ∷ [])
        (variable 0 ⊗ variable 3 ⊕ variable 1 ⊗ ((constant (pos 0) ⊖ variable 0) ⊗ variable 2)) (constant (pos 0))
        (constant (pos 0) ⊖ variable 0) (variable 2 ⊗ variable 1) (variable 3) f refl

-- the value of a cost row along a direction of its tableau
pub direction-cost : (p : LinearProgram) (t : Tableau) (s : CommonScale p.rows t.scale) (q c : ℕ) → IsCanonical p t
    → q < 3 → c < suc (unknowns p) → cost_at p t q (ray p t s c) ≡ t.entry (cost_row p q) c *ℤ s.d
direction-cost p t s q c h few l =
    direction-none p t s c (t.entry (cost_row p q)) h l (λ k n. h.other (cost_row p q) k (omega arith) n (omega arith))
