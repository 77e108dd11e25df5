-- A dual excludes every solution, and prices bound the cost of each from below.
use Rattle.std.proofs.Common.{◌≡◌, ℕ, ◌<◌, ap, arith, refl, sym, ◌∙◌, subst, [], ◌∷◌}
use Rattle.std.specs.Prelude.{ℤ, pos, ◌+ℤ◌, ◌*ℤ◌, ◌≤ℤ◌, ◌<ℤ◌}
use Rattle.std.proofs.lemmas.Int.{ints}
use Rattle.int_laws.specs.Sums.{dot}
use Rattle.int_laws.specs.Polynomial.{variable, ◌⊗◌}
use Rattle.int_laws.proofs.Identities.{identity, identity_by_one}
use Rattle.int_laws.proofs.OrderLaws.{mul-positive_ℤ, mul-le-mul_ℤ, le-of-mul_ℤ}
use Rattle.int_laws.proofs.SumLaws.{sum_to-zero}
use Rattle.int_laws.proofs.DotLaws.{combined-times, dot-scaled, dot-scaled_behind, dot-combined}
use Rattle.int_laws.proofs.Duality.{weak_duality}
use Rattle.linear_forms.specs.LinearProgram.{CostsAtMost, CostsTheSame, HasSolution, LinearProgram, IsSolution}
use Rattle.linear_forms.specs.LinearProgram.{HasPrices, IsLeast, IsDual}

-- prices that give each column at most its cost give the right sides at most the cost of a solution
solution-priced : (p : LinearProgram) (cost price y : ℕ → ℤ) (e : ℤ) → IsSolution p y e → ((j : ℕ) → j < p.columns → dot p.rows price (λ i. p.entry i j) ≤ℤ cost j)
    → (dot p.rows price p.right *ℤ e) ≤ℤ dot p.columns cost y
solution-priced p cost price y e s h =
    subst (λ (z : ℤ). z ≤ℤ dot p.columns cost y) (dot-scaled_behind p.rows price p.right e)
    (weak_duality p.rows p.columns p.entry (λ i. p.right i *ℤ e) cost price y (record { equations = s.equations; nonnegative = s.nonnegative }) h)

-- a dual excludes every solution
pub dual-excludes : (p : LinearProgram) (dual : ℕ → ℤ) → IsDual p dual → ¬ HasSolution p
dual-excludes p dual h s =
    clash _ _ (mul-positive_ℤ _ _ h.right s.solution.denominator)
    (solution-priced p (λ _. pos 0) dual s.x s.d s.solution h.columns)
    (sum_to-zero p.columns (λ j. pos 0 *ℤ s.x j) (λ j _. no_cost (s.x j)))
  where
    no_cost : (z : ℤ) → pos 0 *ℤ z ≡ pos 0
    no_cost z = omega (arith, ints)

    clash : (a b : ℤ) → pos 0 <ℤ a → a ≤ℤ b → b ≡ pos 0 → ⊥
    clash a b l m e = omega (arith, ints)

-- a point with prices costs at most what a solution costs
priced-least : (p : LinearProgram) (cost x : ℕ → ℤ) (d : ℤ) (y : ℕ → ℤ) (e : ℤ) → pos 0 <ℤ d → HasPrices p cost x d → IsSolution p y e → CostsAtMost p.columns cost x d y e
priced-least p cost x d y e positive h s =
    crossed h.q (dot p.rows h.price p.right) (dot p.columns cost x) (dot p.columns cost y) h.are_prices.denominator h.are_prices.exact
    (subst (λ (z : ℤ). (dot p.rows h.price p.right *ℤ e) ≤ℤ z) (dot-scaled p.columns h.q cost y)
    (solution-priced p (λ j. h.q *ℤ cost j) h.price y e s h.are_prices.columns))
  where
    weak : (z : ℤ) → pos 0 <ℤ z → pos 0 ≤ℤ z
    weak z l = omega (arith, ints)

    swapped : (v w a b : ℤ) → v ≡ a → w ≡ b → a ≤ℤ b → v ≤ℤ w
    swapped v w a b f g l = omega (arith, ints)

    crossed : (q r a b : ℤ) → pos 0 <ℤ q → r *ℤ d ≡ q *ℤ a → (r *ℤ e) ≤ℤ (q *ℤ b) → (a *ℤ e) ≤ℤ (b *ℤ d)
    crossed q r a b over exact below =
        le-of-mul_ℤ q (a *ℤ e) (b *ℤ d) over
        (swapped _ _ _ _
        (identity_by_one (q ∷ r ∷ a ∷ d ∷ e ∷ []) (variable 0 ⊗ (variable 2 ⊗ variable 4)) (variable 3 ⊗ (variable 1 ⊗ variable 4))
        (variable 4) (variable 0 ⊗ variable 2) (variable 1 ⊗ variable 3) (sym exact) refl)
        (identity (q ∷ b ∷ d ∷ []) (variable 0 ⊗ (variable 1 ⊗ variable 2)) (variable 2 ⊗ (variable 0 ⊗ variable 1)) refl)
        (mul-le-mul_ℤ d (r *ℤ e) (q *ℤ b) (weak d positive) below))

-- a point of least cost has first costs of at most those of any solution
pub least-first : (p : LinearProgram) (x : ℕ → ℤ) (d : ℤ) (y : ℕ → ℤ) (e : ℤ) → pos 0 <ℤ d → IsLeast p x d → IsSolution p y e → CostsAtMost p.columns p.first x d y e
least-first p x d y e positive h s = priced-least p p.first x d y e positive h.first s

-- a point of least cost has second costs of at most those of any solution with the same first costs
pub least-second : (p : LinearProgram) (x : ℕ → ℤ) (d : ℤ) (y : ℕ → ℤ) (e : ℤ) → pos 0 <ℤ d → IsLeast p x d → IsSolution p y e → CostsTheSame p.columns p.first x d y e
    → CostsAtMost p.columns p.second x d y e
least-second p x d y e positive h s same =
    left_out (pos h.multiple) (dot p.columns p.second x) (dot p.columns p.first x) (dot p.columns p.second y) (dot p.columns p.first y) _ _
    (dot-combined p.columns p.second p.first x (pos h.multiple)) (dot-combined p.columns p.second p.first y (pos h.multiple)) same
    (priced-least p (λ j. p.second j +ℤ pos h.multiple *ℤ p.first j) x d y e positive h.second s)
  where
    difference : (a b v w g k : ℤ) → v ≡ a +ℤ g → w ≡ b +ℤ k → g ≡ k → v ≤ℤ w → a ≤ℤ b
    difference a b v w g k f i l m = omega (arith, ints)

    left_out : (m a f b g v w : ℤ) → v ≡ a +ℤ m *ℤ f → w ≡ b +ℤ m *ℤ g → f *ℤ e ≡ g *ℤ d → (v *ℤ e) ≤ℤ (w *ℤ d) → (a *ℤ e) ≤ℤ (b *ℤ d)
    left_out m a f b g v w left right equal below =
        difference (a *ℤ e) (b *ℤ d) (v *ℤ e) (w *ℤ d) (m *ℤ (f *ℤ e)) (m *ℤ (g *ℤ d))
        (ap (λ (z : ℤ). z *ℤ e) left ∙ combined-times a m f e) (ap (λ (z : ℤ). z *ℤ d) right ∙ combined-times b m g d) (ap (λ (z : ℤ). m *ℤ z) equal) below
