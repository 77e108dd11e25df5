-- A number less a product, over common denominators.
use Rattle.std.proofs.Common.{◌≡◌, refl, sym, ◌∙◌, ap, subst, [], ◌∷◌}
use Rattle.std.specs.Prelude.{ℤ, pos, ◌-ℤ◌, ◌*ℤ◌}
use Rattle.int_laws.specs.Polynomial.{Polynomial, variable, constant, ◌⊖◌, ◌⊗◌}
use Rattle.int_laws.proofs.Identities.{identity, identity_by_one}

-- g/e is a/b less m/n times c/d, if it equals the fraction over all three denominators
pub less_by_formula : (a b m n c d g e left right over under : ℤ)
    → left ≡ (a *ℤ n) *ℤ d → right ≡ (m *ℤ b) *ℤ c → over ≡ left -ℤ right → under ≡ (b *ℤ n) *ℤ d
    → g *ℤ under ≡ over *ℤ e
    → g *ℤ ((b *ℤ n) *ℤ d) ≡ ((a *ℤ n) *ℤ d -ℤ (m *ℤ c) *ℤ b) *ℤ e
less_by_formula a b m n c d g e left right over under left_is right_is over_is under_is fraction =
    ap (λ (z : ℤ). g *ℤ z) (sym under_is) ∙ (fraction ∙ ap (λ (z : ℤ). z *ℤ e) formula)
  where
    swapped : (m *ℤ b) *ℤ c ≡ (m *ℤ c) *ℤ b
    swapped = identity (m ∷ b ∷ c ∷ []) ((variable 0 ⊗ variable 1) ⊗ variable 2) ((variable 0 ⊗ variable 2) ⊗ variable 1) refl

    formula : over ≡ (a *ℤ n) *ℤ d -ℤ (m *ℤ c) *ℤ b
    formula = over_is ∙ (ap (λ (z : ℤ). z -ℤ right) left_is ∙ ap (λ (z : ℤ). (a *ℤ n) *ℤ d -ℤ z) (right_is ∙ swapped))

-- g/e is a/b less m/n times c/d, if all denominators are 1
pub less_by_whole : (a b m n c d g e : ℤ) → b ≡ pos 1 → n ≡ pos 1 → d ≡ pos 1 → e ≡ pos 1 → g ≡ a -ℤ m *ℤ c
    → g *ℤ ((b *ℤ n) *ℤ d) ≡ ((a *ℤ n) *ℤ d -ℤ (m *ℤ c) *ℤ b) *ℤ e
less_by_whole a b m n c d g e b_one n_one d_one e_one value =
    subst (λ (z : ℤ). g *ℤ ((z *ℤ n) *ℤ d) ≡ ((a *ℤ n) *ℤ d -ℤ (m *ℤ c) *ℤ z) *ℤ e) (sym b_one)
    (subst (λ (z : ℤ). g *ℤ ((pos 1 *ℤ z) *ℤ d) ≡ ((a *ℤ z) *ℤ d -ℤ (m *ℤ c) *ℤ pos 1) *ℤ e) (sym n_one)
    (subst (λ (z : ℤ). g *ℤ ((pos 1 *ℤ pos 1) *ℤ z) ≡ ((a *ℤ pos 1) *ℤ z -ℤ (m *ℤ c) *ℤ pos 1) *ℤ e) (sym d_one)
    (subst (λ (z : ℤ). g *ℤ ((pos 1 *ℤ pos 1) *ℤ pos 1) ≡ ((a *ℤ pos 1) *ℤ pos 1 -ℤ (m *ℤ c) *ℤ pos 1) *ℤ z) (sym e_one)
    (identity_by_one (g ∷ a ∷ m ∷ c ∷ []) (variable 0 ⊗ ((one ⊗ one) ⊗ one))
    (((variable 1 ⊗ one) ⊗ one ⊖ (variable 2 ⊗ variable 3) ⊗ one) ⊗ one) one (variable 0) (variable 1 ⊖ variable 2 ⊗ variable 3) value refl))))
  where
    one : Polynomial
    one = constant (pos 1)

-- a product of three numbers that are equal to others is the product of those
pub same_triple : (x y z x' y' z' r : ℤ) → x' ≡ x → y' ≡ y → z' ≡ z → r ≡ (x' *ℤ y') *ℤ z' → r ≡ (x *ℤ y) *ℤ z
same_triple x y z x' y' z' r ex ey ez e =
    e ∙ (ap (λ (w : ℤ). (w *ℤ y') *ℤ z') ex ∙ (ap (λ (w : ℤ). (x *ℤ w) *ℤ z') ey ∙ ap (λ (w : ℤ). (x *ℤ y) *ℤ w) ez))

-- a product of two numbers that are equal to others is the product of those
pub same_product : (x y x' y' r : ℤ) → x' ≡ x → y' ≡ y → r ≡ x' *ℤ y' → r ≡ x *ℤ y
same_product x y x' y' r ex ey e = e ∙ (ap (λ (w : ℤ). w *ℤ y') ex ∙ ap (λ (w : ℤ). x *ℤ w) ey)

-- a difference of two numbers that are equal to others is the difference of those
pub same_difference : (x y x' y' r : ℤ) → x' ≡ x → y' ≡ y → r ≡ x' -ℤ y' → r ≡ x -ℤ y
same_difference x y x' y' r ex ey e = e ∙ (ap (λ (w : ℤ). w -ℤ y') ex ∙ ap (λ (w : ℤ). x -ℤ w) ey)

-- a number less a product of two, which are equal to others, is that of those
pub same_less : (x y z x' y' z' r : ℤ) → x' ≡ x → y' ≡ y → z' ≡ z → r ≡ x' -ℤ y' *ℤ z' → r ≡ x -ℤ y *ℤ z
same_less x y z x' y' z' r ex ey ez e =
    e ∙ (ap (λ (w : ℤ). w -ℤ y' *ℤ z') ex ∙ (ap (λ (w : ℤ). x -ℤ w *ℤ z') ey ∙ ap (λ (w : ℤ). x -ℤ y *ℤ w) ez))

-- a fraction of two numbers that are equal to others is the fraction of those
pub same_fraction : (n d x y x' y' : ℤ) → x' ≡ x → y' ≡ y → n *ℤ y' ≡ x' *ℤ d → n *ℤ y ≡ x *ℤ d
same_fraction n d x y x' y' ex ey e = ap (λ (w : ℤ). n *ℤ w) (sym ey) ∙ (e ∙ ap (λ (w : ℤ). w *ℤ d) ex)
