-- A fraction that shows a number over a scale has its sign.
use Rattle.std.proofs.Common.{◌≡◌, ap, arith, refl, sym, ◌∙◌, Bool, true, false}
use Rattle.std.specs.Prelude.{ℤ, pos, ◌*ℤ◌, ◌<ℤ◌, int_lt}
use Rattle.std.proofs.lemmas.Int.{ints}
use Rattle.std.specs.Prelude.{nat_eq}
use Rattle.std.specs.Int.{w128}
use Rattle.std.proofs.Common.{of_z}
use Rattle.std.specs.Prelude.{FitsSigned as SFits}
use Rattle.std.proofs.lemmas.Bool.{eqb-true, eq-eqb}
use Rattle.int_laws.specs.NormalForm.{is_zero}
use Rattle.int_laws.proofs.RingLaws.{mul_comm_ℤ}
use Rattle.int_laws.proofs.OrderLaws.{mul-cancel_ℤ, mul-positive_ℤ, mul-lt-mul_ℤ, lt-of-mul_ℤ}
use Rattle.std.specs.Prelude.{[], ◌∷◌}
use Rattle.int_laws.specs.Polynomial.{variable, ◌⊗◌}
use Rattle.int_laws.proofs.Identities.{identity_by_one}
use Rattle.simplex_core.proofs.Choices.{int_lt-true, lt-int_lt}
pub use Rattle.int_laws.proofs.ZeroLaws.{is_zero-true}

-- two tests of which each implies the other are equal
pub same_test : (a b : Bool) → (a ≡ true → b ≡ true) → (b ≡ true → a ≡ true) → a ≡ b
same_test true b h k = sym (h refl)
same_test false true h k = k refl
same_test false false h k = refl

-- if n over d is e over s, with d and s above 0, e is below 0 if n is
below_zero : (n d e s : ℤ) → pos 0 <ℤ d → pos 0 <ℤ s → n *ℤ s ≡ e *ℤ d → n <ℤ pos 0 → e <ℤ pos 0
below_zero n d e s pd ps same h =
    lt-of-mul_ℤ d e (pos 0) pd (from _ _ (mul_comm_ℤ d e) (mul_comm_ℤ s n) (mul-lt-mul_ℤ s n (pos 0) ps h))
  where
    from : (v w : ℤ) → v ≡ e *ℤ d → w ≡ n *ℤ s → w <ℤ (s *ℤ pos 0) → v <ℤ (d *ℤ pos 0)
    from v w a b l = omega (arith, ints)

-- if n over d is e over s, with d and s above 0, e is above 0 if n is
over_zero : (n d e s : ℤ) → pos 0 <ℤ d → pos 0 <ℤ s → n *ℤ s ≡ e *ℤ d → pos 0 <ℤ n → pos 0 <ℤ e
over_zero n d e s pd ps same h =
    lt-of-mul_ℤ d (pos 0) e pd (from _ _ (mul_comm_ℤ d e) (mul_comm_ℤ s n) (mul-lt-mul_ℤ s (pos 0) n ps h))
  where
    from : (v w : ℤ) → v ≡ e *ℤ d → w ≡ n *ℤ s → (s *ℤ pos 0) <ℤ w → (d *ℤ pos 0) <ℤ v
    from v w a b l = omega (arith, ints)

-- if n over d is e over s, with d above 0, e is 0 if n is
at_zero : (n d e s : ℤ) → pos 0 <ℤ d → n *ℤ s ≡ e *ℤ d → n ≡ pos 0 → e ≡ pos 0
at_zero n d e s pd same h =
    mul-cancel_ℤ d e (pos 0) pd (mul_comm_ℤ d e ∙ (sym same ∙ (ap (λ (z : ℤ). z *ℤ s) h ∙ zeros d s)))
  where
    zeros : (d s : ℤ) → pos 0 *ℤ s ≡ d *ℤ pos 0
    zeros d s = omega (arith, ints)

-- the test for a number below 0 gives the same for n and e
pub negative-shows : (n d e s : ℤ) → pos 0 <ℤ d → pos 0 <ℤ s → n *ℤ s ≡ e *ℤ d → int_lt n (pos 0) ≡ int_lt e (pos 0)
negative-shows n d e s pd ps same =
    same_test _ _
    (λ h. lt-int_lt e (pos 0) (below_zero n d e s pd ps same (int_lt-true n (pos 0) h)))
    (λ h. lt-int_lt n (pos 0) (below_zero e s n d ps pd (sym same) (int_lt-true e (pos 0) h)))

-- the test for a number above 0 gives the same for n and e
pub positive-shows : (n d e s : ℤ) → pos 0 <ℤ d → pos 0 <ℤ s → n *ℤ s ≡ e *ℤ d → int_lt (pos 0) n ≡ int_lt (pos 0) e
positive-shows n d e s pd ps same =
    same_test _ _
    (λ h. lt-int_lt (pos 0) e (over_zero n d e s pd ps same (int_lt-true (pos 0) n h)))
    (λ h. lt-int_lt (pos 0) n (over_zero e s n d ps pd (sym same) (int_lt-true (pos 0) e h)))

-- the test for 0 gives the same for n and e
pub zero-shows : (n d e s : ℤ) → pos 0 <ℤ d → pos 0 <ℤ s → n *ℤ s ≡ e *ℤ d → is_zero n ≡ is_zero e
zero-shows n d e s pd ps same =
    same_test _ _
    (λ h. ap is_zero (at_zero n d e s pd same (is_zero-true n h)))
    (λ h. ap is_zero (at_zero e s n d ps (sym same) (is_zero-true e h)))

-- the code's test for 0 on numbers of 128 bits
pub zero-test : (z : ℤ) → SFits w128 z → nat_eq (of_z w128 z) 0 ≡ is_zero z
zero-test z fits =
    same_test _ _
    (λ h. ap is_zero (none (eqb-true (of_z w128 z) 0 h)))
    (λ h. eq-eqb (of_z w128 z) 0 (ap (of_z w128) (is_zero-true z h)))
  where
    none : of_z w128 z ≡ 0 → z ≡ pos 0
    none e = omega (arith, ints)

-- the order of two products of fractions with the same denominators is that of the numbers that they show
pub products-show : (a b c d a' b' c' d' s r x y z w : ℤ) → pos 0 <ℤ a' → pos 0 <ℤ b' → pos 0 <ℤ c' → pos 0 <ℤ d' → pos 0 <ℤ s → pos 0 <ℤ r
    → a *ℤ s ≡ x *ℤ a' → b *ℤ r ≡ y *ℤ b' → c *ℤ r ≡ z *ℤ c' → d *ℤ s ≡ w *ℤ d'
    → int_lt ((a *ℤ b) *ℤ (c' *ℤ d')) ((c *ℤ d) *ℤ (a' *ℤ b')) ≡ int_lt (x *ℤ y) (z *ℤ w)
products-show a b c d a' b' c' d' s r x y z w pa pb pc pd ps pr ea eb ec ed =
    same_test _ _
    (λ h. lt-int_lt _ _ (lt-of-mul_ℤ under _ _ under_positive
    (both _ _ _ _ left right (mul-lt-mul_ℤ (s *ℤ r) _ _ scale_positive (int_lt-true _ _ h)))))
    (λ h. lt-int_lt _ _ (lt-of-mul_ℤ (s *ℤ r) _ _ scale_positive
    (both _ _ _ _ (sym left) (sym right) (mul-lt-mul_ℤ under _ _ under_positive (int_lt-true _ _ h)))))
  where
    under : ℤ
    under = (a' *ℤ b') *ℤ (c' *ℤ d')

    under_positive : pos 0 <ℤ under
    under_positive = mul-positive_ℤ (a' *ℤ b') (c' *ℤ d') (mul-positive_ℤ a' b' pa pb) (mul-positive_ℤ c' d' pc pd)

    scale_positive : pos 0 <ℤ (s *ℤ r)
    scale_positive = mul-positive_ℤ s r ps pr

    both : (v w v' w' : ℤ) → v ≡ v' → w ≡ w' → v <ℤ w → v' <ℤ w'
    both v w v' w' e f l = omega (arith, ints)

    one_side : (a b a' b' c' d' s r x y : ℤ) → a *ℤ s ≡ x *ℤ a' → b *ℤ r ≡ y *ℤ b' → (s *ℤ r) *ℤ ((a *ℤ b) *ℤ (c' *ℤ d')) ≡ ((a' *ℤ b') *ℤ (c' *ℤ d')) *ℤ (x *ℤ y)
    one_side a b a' b' c' d' s r x y ea eb =
        identity_by_one (a ∷ b ∷ a' ∷ c' ∷ d' ∷ s ∷ r ∷ x ∷ [])
        ((variable 5 ⊗ variable 6) ⊗ ((variable 0 ⊗ variable 1) ⊗ (variable 3 ⊗ variable 4)))
        ((variable 2 ⊗ variable 7) ⊗ (variable 1 ⊗ variable 6) ⊗ (variable 3 ⊗ variable 4))
        (variable 6 ⊗ variable 1 ⊗ variable 3 ⊗ variable 4) (variable 0 ⊗ variable 5) (variable 7 ⊗ variable 2) ea refl
        ∙ identity_by_one (b ∷ a' ∷ b' ∷ c' ∷ d' ∷ r ∷ x ∷ y ∷ [])
        ((variable 1 ⊗ variable 6) ⊗ (variable 0 ⊗ variable 5) ⊗ (variable 3 ⊗ variable 4))
        (((variable 1 ⊗ variable 2) ⊗ (variable 3 ⊗ variable 4)) ⊗ (variable 6 ⊗ variable 7))
        ((variable 1 ⊗ variable 6) ⊗ (variable 3 ⊗ variable 4)) (variable 0 ⊗ variable 5) (variable 7 ⊗ variable 2) eb refl

    left : (s *ℤ r) *ℤ ((a *ℤ b) *ℤ (c' *ℤ d')) ≡ under *ℤ (x *ℤ y)
    left = one_side a b a' b' c' d' s r x y ea eb

    right : (s *ℤ r) *ℤ ((c *ℤ d) *ℤ (a' *ℤ b')) ≡ under *ℤ (z *ℤ w)
    right =
        ap (λ (v : ℤ). v *ℤ ((c *ℤ d) *ℤ (a' *ℤ b'))) (mul_comm_ℤ s r)
        ∙ (one_side c d c' d' a' b' r s z w ec ed ∙ ap (λ (v : ℤ). v *ℤ (z *ℤ w)) (mul_comm_ℤ (c' *ℤ d') (a' *ℤ b')))
