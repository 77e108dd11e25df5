-- Tableaux in canonical form: the scales are above 0, and the columns of the basis are units. Pivots at entries above 0
-- preserve it, whether or not right sides remain at least 0.
use Rattle.std.proofs.Common.{◌≡◌, ◌≢◌, ℕ, ◌+◌, ◌<◌, ap, arith, sym, ◌∙◌, subst, ◌⊎◌, inl, inr}
use Rattle.std.specs.Prelude.{ℤ, pos, ◌-ℤ◌, ◌*ℤ◌, ◌<ℤ◌}
use Rattle.std.proofs.lemmas.Int.{ints}
use Rattle.int_laws.proofs.OrderLaws.{mul-positive_ℤ}
use Rattle.linear_forms.specs.LinearProgram.{LinearProgram}
use Rattle.simplex_core.specs.Tableau.{Tableau, unknowns, pivot}
use Rattle.simplex_core.proofs.Regions.{pivot-row, pivot-other, pivot-scale, pivot-other_scale, pivot-basis}
use Rattle.simplex_core.proofs.Regions.{pivot-other_basis}
use Rattle.simplex_core.proofs.Invariant.{IsTableauOf, same_or_other}

-- the scales are above 0, and in the column of a row's basic unknown the row has its scale and each other row 0
pub record IsCanonical (p : LinearProgram) (t : Tableau) : Type 0 where
  pub positive : (i : ℕ) → i < p.rows + 3 → pos 0 <ℤ t.scale i
  pub basic : (i : ℕ) → i < p.rows → t.basis i < unknowns p
  pub own : (i : ℕ) → i < p.rows → t.entry i (t.basis i) ≡ t.scale i
  pub other : (i k : ℕ) → i < p.rows + 3 → k < p.rows → i ≢ k → t.entry i (t.basis k) ≡ pos 0

-- the tableaux of the sequence are in canonical form
pub tableau-canonical : (p : LinearProgram) (t : Tableau) → IsTableauOf p t → IsCanonical p t
tableau-canonical p t h = record { positive = h.positive; basic = h.basic; own = h.own; other = h.other }

-- the basic unknowns of two rows are different
pub basic-unique : (p : LinearProgram) (t : Tableau) (i r : ℕ) → IsCanonical p t → i < p.rows → r < p.rows
    → t.basis i ≡ t.basis r → i ≡ r
basic-unique p t i r h li lr e = go (same_or_other r i)
  where
    clash : (s : ℤ) → pos 0 <ℤ s → s ≡ pos 0 → ⊥
    clash s a b = omega (arith, ints)

    go : (r ≡ i) ⊎ (r ≢ i) → i ≡ r
    go (inl s) = sym s
    go (inr d) =
        absurd (clash _ (h.positive r (omega arith))
        (sym (h.own r lr) ∙ (ap (λ (j : ℕ). t.entry r j) (sym e) ∙ h.other r i (omega arith) li d)))

module _ (p : LinearProgram) (t : Tableau) (r c : ℕ) (row : r < p.rows) (column : c < unknowns p)
    (positive : pos 0 <ℤ t.entry r c) (h : IsCanonical p t) where
  -- a scale after the pivot is above 0
  scale-positive : (i : ℕ) → i < p.rows + 3 → (i ≡ r) ⊎ (i ≢ r) → pos 0 <ℤ (pivot t r c).scale i
  scale-positive i l (inl e) =
      subst (λ (m : ℕ). pos 0 <ℤ (pivot t r c).scale m) (sym e)
      (subst (λ (z : ℤ). pos 0 <ℤ z) (sym (pivot-scale t r c)) positive)
  scale-positive i l (inr d) =
      subst (λ (z : ℤ). pos 0 <ℤ z) (sym (pivot-other_scale t r c i d)) (mul-positive_ℤ _ _ (h.positive i l) positive)

  -- a basic unknown after the pivot is one of the unknowns
  basic-in_range : (i : ℕ) → i < p.rows → (i ≡ r) ⊎ (i ≢ r) → (pivot t r c).basis i < unknowns p
  basic-in_range i l (inl e) =
      let b = ap (λ (m : ℕ). (pivot t r c).basis m) e ∙ pivot-basis t r c in omega (arith, b, column)
  basic-in_range i l (inr d) = let b = pivot-other_basis t r c i d in omega (arith, b, h.basic i l)

  -- after the pivot, a row has its scale in its own column
  own-scale : (i : ℕ) → i < p.rows → (i ≡ r) ⊎ (i ≢ r)
      → (pivot t r c).entry i ((pivot t r c).basis i) ≡ (pivot t r c).scale i
  own-scale i l (inl e) =
      subst (λ (m : ℕ). (pivot t r c).entry m ((pivot t r c).basis m) ≡ (pivot t r c).scale m) (sym e)
      (ap (λ (j : ℕ). (pivot t r c).entry r j) (pivot-basis t r c) ∙ (pivot-row t r c c ∙ sym (pivot-scale t r c)))
  own-scale i l (inr d) =
      ap (λ (j : ℕ). (pivot t r c).entry i j) (pivot-other_basis t r c i d)
      ∙ (pivot-other t r c i (t.basis i) d
      ∙ (keeps _ _ _ (h.own i l) (h.other r i (omega (arith, row)) l (λ e. d (sym e)))
      ∙ sym (pivot-other_scale t r c i d)))
    where
      keeps : (a b s : ℤ) → a ≡ s → b ≡ pos 0 → a *ℤ t.entry r c -ℤ t.entry i c *ℤ b ≡ s *ℤ t.entry r c
      keeps a b s e f =
          omega (arith, ints, ap (λ (z : ℤ). z *ℤ t.entry r c) e, ap (λ (z : ℤ). t.entry i c *ℤ z) f)

  -- after the pivot, each other row has 0 in that column
  other-zero : (i k : ℕ) → i < p.rows + 3 → k < p.rows → i ≢ k → (i ≡ r) ⊎ (i ≢ r) → (k ≡ r) ⊎ (k ≢ r)
      → (pivot t r c).entry i ((pivot t r c).basis k) ≡ pos 0
  other-zero i k l m d (inl e) (inl f) = absurd (d (e ∙ sym f))
  other-zero i k l m d (inl e) (inr f) =
      ap (λ (n : ℕ). (pivot t r c).entry n ((pivot t r c).basis k)) e
      ∙ (ap (λ (j : ℕ). (pivot t r c).entry r j) (pivot-other_basis t r c k f)
      ∙ (pivot-row t r c (t.basis k) ∙ h.other r k (omega (arith, row)) m (λ g. f (sym g))))
  other-zero i k l m d (inr e) (inl f) =
      ap (λ (j : ℕ). (pivot t r c).entry i j) (ap (λ (n : ℕ). (pivot t r c).basis n) f ∙ pivot-basis t r c)
      ∙ (pivot-other t r c i c e ∙ no_difference (t.entry i c *ℤ t.entry r c))
    where
      no_difference : (a : ℤ) → a -ℤ a ≡ pos 0
      no_difference a = omega (arith, ints)
  other-zero i k l m d (inr e) (inr f) =
      ap (λ (j : ℕ). (pivot t r c).entry i j) (pivot-other_basis t r c k f)
      ∙ (pivot-other t r c i (t.basis k) e
      ∙ both_zero _ _ (h.other i k l m d) (h.other r k (omega (arith, row)) m (λ g. f (sym g))))
    where
      both_zero : (a b : ℤ) → a ≡ pos 0 → b ≡ pos 0 → a *ℤ t.entry r c -ℤ t.entry i c *ℤ b ≡ pos 0
      both_zero a b e f =
          omega (arith, ints, ap (λ (z : ℤ). z *ℤ t.entry r c) e, ap (λ (z : ℤ). t.entry i c *ℤ z) f)

  -- a pivot at an entry above 0 preserves the canonical form
  pub pivot-canonical : IsCanonical p (pivot t r c)
  pivot-canonical = record {
    positive = λ i l. scale-positive i l (same_or_other i r);
    basic = λ i l. basic-in_range i l (same_or_other i r);
    own = λ i l. own-scale i l (same_or_other i r);
    other = λ i k l m d. other-zero i k l m d (same_or_other i r) (same_or_other k r);
  }
