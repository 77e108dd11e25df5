-- A fraction plus a multiple of another, computed by a product and a sum.
use Rattle.std.proofs.Common.{◌≡◌, refl, ◌∙◌, [], ◌∷◌}
use Rattle.std.specs.Prelude.{ℤ, pos, ◌+ℤ◌, ◌*ℤ◌, ◌<ℤ◌}
use Rattle.int_laws.specs.Polynomial.{variable, ◌⊕◌, ◌⊗◌}
use Rattle.int_laws.proofs.Identities.{identity_by_one}
use Rattle.int_laws.proofs.OrderLaws.{mul-cancel_ℤ}

-- if p/q is (b/c) times (t/u), and s/r is h/k plus p/q, then s/r is h/k plus (b/c) times (t/u)
pub sum-shows : (h k b c t u p q s r : ℤ) → pos 0 <ℤ q → p *ℤ (c *ℤ u) ≡ (b *ℤ t) *ℤ q → s *ℤ (k *ℤ q) ≡ (h *ℤ q +ℤ p *ℤ k) *ℤ r
    → s *ℤ (k *ℤ (c *ℤ u)) ≡ (h *ℤ (c *ℤ u) +ℤ (b *ℤ t) *ℤ k) *ℤ r
sum-shows h k b c t u p q s r positive product sum =
    mul-cancel_ℤ q (s *ℤ (k *ℤ (c *ℤ u))) ((h *ℤ (c *ℤ u) +ℤ (b *ℤ t) *ℤ k) *ℤ r) positive
    (identity_by_one (h ∷ k ∷ c ∷ u ∷ p ∷ q ∷ s ∷ r ∷ [])
    (variable 5 ⊗ (variable 6 ⊗ (variable 1 ⊗ (variable 2 ⊗ variable 3))))
    (((variable 0 ⊗ variable 5) ⊗ (variable 2 ⊗ variable 3) ⊕ (variable 4 ⊗ (variable 2 ⊗ variable 3)) ⊗ variable 1) ⊗ variable 7)
    (variable 2 ⊗ variable 3) (variable 6 ⊗ (variable 1 ⊗ variable 5)) ((variable 0 ⊗ variable 5 ⊕ variable 4 ⊗ variable 1) ⊗ variable 7) sum refl
    ∙ identity_by_one (h ∷ k ∷ b ∷ c ∷ t ∷ u ∷ p ∷ q ∷ r ∷ [])
    (((variable 0 ⊗ variable 7) ⊗ (variable 3 ⊗ variable 5) ⊕ (variable 6 ⊗ (variable 3 ⊗ variable 5)) ⊗ variable 1) ⊗ variable 8)
    (variable 7 ⊗ ((variable 0 ⊗ (variable 3 ⊗ variable 5) ⊕ (variable 2 ⊗ variable 4) ⊗ variable 1) ⊗ variable 8))
    (variable 1 ⊗ variable 8) (variable 6 ⊗ (variable 3 ⊗ variable 5)) ((variable 2 ⊗ variable 4) ⊗ variable 7) product refl)
