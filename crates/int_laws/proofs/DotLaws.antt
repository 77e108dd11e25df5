-- Laws of sums of products.
use Rattle.std.proofs.Common.{◌≡◌, ℕ, ap, arith, refl, sym, ◌∙◌, [], ◌∷◌}
use Rattle.std.specs.Prelude.{ℤ, ◌+ℤ◌, ◌-ℤ◌, ◌*ℤ◌}
use Rattle.std.proofs.lemmas.Int.{ints}
use Rattle.int_laws.specs.Sums.{sum_to, dot}
use Rattle.int_laws.specs.Polynomial.{variable, ◌⊕◌, ◌⊖◌, ◌⊗◌}
use Rattle.int_laws.proofs.Identities.{identity}
use Rattle.int_laws.proofs.RingLaws.{mul_assoc_ℤ}
use Rattle.int_laws.proofs.SumLaws.{sum_to-same, sum_to-add, sum_to-sub, sum_to-scale, sum_to-scale_behind}

-- in the sum of products with multiples, the common factor can be taken out on the right
pub dot-scaled_behind : (n : ℕ) (w b : ℕ → ℤ) (d : ℤ) → dot n w (λ i. b i *ℤ d) ≡ dot n w b *ℤ d
dot-scaled_behind n w b d =
    sum_to-same n (λ i. w i *ℤ (b i *ℤ d)) (λ i. (w i *ℤ b i) *ℤ d) (λ i _. sym (mul_assoc_ℤ (w i) (b i) d))
    ∙ sum_to-scale_behind n d (λ i. w i *ℤ b i)

-- in the sum of products of multiples with a point, the common factor can be taken out
pub dot-scaled : (n : ℕ) (q : ℤ) (c x : ℕ → ℤ) → dot n (λ j. q *ℤ c j) x ≡ q *ℤ dot n c x
dot-scaled n q c x =
    sum_to-same n (λ j. (q *ℤ c j) *ℤ x j) (λ j. q *ℤ (c j *ℤ x j)) (λ j _. mul_assoc_ℤ q (c j) (x j)) ∙ sum_to-scale n q (λ j. c j *ℤ x j)

-- distributivity of a number plus a product over a factor
pub combined-times : (c m h z : ℤ) → (c +ℤ m *ℤ h) *ℤ z ≡ c *ℤ z +ℤ m *ℤ (h *ℤ z)
combined-times c m h z =
    identity (c ∷ m ∷ h ∷ z ∷ []) ((variable 0 ⊕ variable 1 ⊗ variable 2) ⊗ variable 3) (variable 0 ⊗ variable 3 ⊕ variable 1 ⊗ (variable 2 ⊗ variable 3)) refl

-- the cost of costs plus a multiple of others is the sum of the cost and the multiple
pub dot-combined : (n : ℕ) (c f x : ℕ → ℤ) (m : ℤ) → dot n (λ j. c j +ℤ m *ℤ f j) x ≡ dot n c x +ℤ m *ℤ dot n f x
dot-combined n c f x m =
    sum_to-same n (λ j. (c j +ℤ m *ℤ f j) *ℤ x j) (λ j. c j *ℤ x j +ℤ m *ℤ (f j *ℤ x j)) (λ j _. combined-times (c j) m (f j) (x j))
    ∙ (sum_to-add n (λ j. c j *ℤ x j) (λ j. m *ℤ (f j *ℤ x j)) ∙ ap (λ (z : ℤ). dot n c x +ℤ z) (sum_to-scale n m (λ j. f j *ℤ x j)))

-- the sum of a combination of two rows is the combination of their sums
pub sum_to-combine : (n : ℕ) (f g h : ℕ → ℤ) (e c : ℤ)
    → sum_to n (λ k. (f k *ℤ e -ℤ c *ℤ g k) *ℤ h k) ≡ sum_to n (λ k. f k *ℤ h k) *ℤ e -ℤ c *ℤ sum_to n (λ k. g k *ℤ h k)
sum_to-combine n f g h e c =
    sum_to-same n (λ k. (f k *ℤ e -ℤ c *ℤ g k) *ℤ h k) (λ k. e *ℤ (f k *ℤ h k) -ℤ c *ℤ (g k *ℤ h k)) (λ k _. term (f k) (g k) (h k))
    ∙ (sum_to-sub n (λ k. e *ℤ (f k *ℤ h k)) (λ k. c *ℤ (g k *ℤ h k))
    ∙ parts _ _ _ _ (sum_to-scale n e (λ k. f k *ℤ h k)) (sum_to-scale n c (λ k. g k *ℤ h k)))
  where
    term : (a b x : ℤ) → (a *ℤ e -ℤ c *ℤ b) *ℤ x ≡ e *ℤ (a *ℤ x) -ℤ c *ℤ (b *ℤ x)
    term a b x = identity (a ∷ b ∷ x ∷ e ∷ c ∷ [])
        ((variable 0 ⊗ variable 3 ⊖ variable 4 ⊗ variable 1) ⊗ variable 2)
        (variable 3 ⊗ (variable 0 ⊗ variable 2) ⊖ variable 4 ⊗ (variable 1 ⊗ variable 2)) refl

    parts : (v w a b : ℤ) → v ≡ e *ℤ a → w ≡ c *ℤ b → v -ℤ w ≡ a *ℤ e -ℤ c *ℤ b
    parts v w a b d f = omega (arith, ints, d, f)
