-- Orders of fractions with denominators above 0, by cross products.
use Rattle.std.proofs.Common.{◌≡◌, arith, refl, [], ◌∷◌}
use Rattle.std.specs.Prelude.{ℤ, pos, ◌*ℤ◌, ◌≤ℤ◌, ◌<ℤ◌}
use Rattle.std.proofs.lemmas.Int.{ints}
use Rattle.int_laws.specs.Polynomial.{variable, ◌⊗◌}
use Rattle.int_laws.proofs.Identities.{identity}
use Rattle.int_laws.proofs.OrderLaws.{mul-le-mul_ℤ, mul-lt-mul_ℤ, le-of-mul_ℤ, lt-of-mul_ℤ}

module _ (a s b t c u : ℤ) (ps : pos 0 <ℤ s) (pt : pos 0 <ℤ t) (pu : pos 0 <ℤ u) where
  swapped : (x y z : ℤ) → x *ℤ (y *ℤ z) ≡ z *ℤ (y *ℤ x)
  swapped x y z = identity (x ∷ y ∷ z ∷ []) (variable 0 ⊗ (variable 1 ⊗ variable 2)) (variable 2 ⊗ (variable 1 ⊗ variable 0)) refl

  weak : (z : ℤ) → pos 0 <ℤ z → pos 0 ≤ℤ z
  weak z h = omega (arith, ints)

  -- a/s ≤ b/t and b/t ≤ c/u imply a/s ≤ c/u
  pub le-le : (a *ℤ t) ≤ℤ (b *ℤ s) → (b *ℤ u) ≤ℤ (c *ℤ t) → (a *ℤ u) ≤ℤ (c *ℤ s)
  le-le h k =
      le-of-mul_ℤ t _ _ pt
      (chain _ _ _ _ _ _ (mul-le-mul_ℤ u _ _ (weak u pu) h) (mul-le-mul_ℤ s _ _ (weak s ps) k)
      (swapped t a u) (swapped u b s) (swapped s c t))
    where
      chain : (v w x y l r : ℤ) → v ≤ℤ w → x ≤ℤ y → l ≡ v → w ≡ x → y ≡ r → l ≤ℤ r
      chain v w x y l r h k e f g = omega (arith, ints)

  -- a/s < b/t and b/t ≤ c/u imply a/s < c/u
  pub lt-le : (a *ℤ t) <ℤ (b *ℤ s) → (b *ℤ u) ≤ℤ (c *ℤ t) → (a *ℤ u) <ℤ (c *ℤ s)
  lt-le h k =
      lt-of-mul_ℤ t _ _ pt
      (chain _ _ _ _ _ _ (mul-lt-mul_ℤ u _ _ pu h) (mul-le-mul_ℤ s _ _ (weak s ps) k)
      (swapped t a u) (swapped u b s) (swapped s c t))
    where
      chain : (v w x y l r : ℤ) → v <ℤ w → x ≤ℤ y → l ≡ v → w ≡ x → y ≡ r → l <ℤ r
      chain v w x y l r h k e f g = omega (arith, ints)

  -- a/s ≤ b/t and b/t < c/u imply a/s < c/u
  pub le-lt : (a *ℤ t) ≤ℤ (b *ℤ s) → (b *ℤ u) <ℤ (c *ℤ t) → (a *ℤ u) <ℤ (c *ℤ s)
  le-lt h k =
      lt-of-mul_ℤ t _ _ pt
      (chain _ _ _ _ _ _ (mul-le-mul_ℤ u _ _ (weak u pu) h) (mul-lt-mul_ℤ s _ _ ps k)
      (swapped t a u) (swapped u b s) (swapped s c t))
    where
      chain : (v w x y l r : ℤ) → v ≤ℤ w → x <ℤ y → l ≡ v → w ≡ x → y ≡ r → l <ℤ r
      chain v w x y l r h k e f g = omega (arith, ints)
