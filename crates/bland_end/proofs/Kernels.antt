-- Points at which the rows of a tableau are 0. A pivot preserves them, and multiplies the values of the cost rows there
-- as it multiplies their scales.
use Rattle.std.proofs.Common.{◌≡◌, ◌≢◌, ℕ, suc, ◌<◌, ap, arith, refl, sym, ◌∙◌, subst, ◌⊎◌, inl, inr, [], ◌∷◌}
use Rattle.std.specs.Prelude.{ℤ, pos, ◌-ℤ◌, ◌*ℤ◌, ◌<ℤ◌}
use Rattle.std.proofs.lemmas.Int.{ints}
use Rattle.int_laws.specs.Sums.{dot}
use Rattle.int_laws.specs.Polynomial.{variable, ◌⊗◌}
use Rattle.int_laws.proofs.Identities.{identity_by_one}
use Rattle.int_laws.proofs.DotLaws.{sum_to-combine}
use Rattle.int_laws.proofs.OrderLaws.{mul-cancel_ℤ}
use Rattle.int_laws.proofs.SumLaws.{sum_to-same}
use Rattle.linear_forms.specs.LinearProgram.{LinearProgram}
use Rattle.simplex_core.specs.Tableau.{Tableau, unknowns, cost_row, pivot}
use Rattle.simplex_core.proofs.Regions.{pivot-row, pivot-other, pivot-other_scale}
use Rattle.simplex_core.proofs.Invariant.{same_or_other}

-- the value of row i at x, where the right sides are one more column
abbrev pub row_at : LinearProgram → Tableau → ℕ → (ℕ → ℤ) → ℤ
row_at p t i x = dot (suc (unknowns p)) (t.entry i) x

-- the value of cost row q at x
abbrev pub cost_at : LinearProgram → Tableau → ℕ → (ℕ → ℤ) → ℤ
cost_at p t q x = row_at p t (cost_row p q) x

-- each row of the tableau is 0 at x
abbrev pub Vanishes : LinearProgram → Tableau → (ℕ → ℤ) → Type 0
Vanishes p t x = (i : ℕ) → i < p.rows → row_at p t i x ≡ pos 0

-- the value of the pivot row is unchanged by a pivot
row_at-pivot : (p : LinearProgram) (t : Tableau) (r c : ℕ) (x : ℕ → ℤ) → row_at p (pivot t r c) r x ≡ row_at p t r x
row_at-pivot p t r c x =
    sum_to-same (suc (unknowns p)) (λ j. (pivot t r c).entry r j *ℤ x j) (λ j. t.entry r j *ℤ x j)
    (λ j _. ap (λ (z : ℤ). z *ℤ x j) (pivot-row t r c j))

-- the value of another row after a pivot
row_at-other : (p : LinearProgram) (t : Tableau) (r c i : ℕ) (x : ℕ → ℤ) → i ≢ r
    → row_at p (pivot t r c) i x ≡ row_at p t i x *ℤ t.entry r c -ℤ t.entry i c *ℤ row_at p t r x
row_at-other p t r c i x d =
    sum_to-same (suc (unknowns p)) (λ j. (pivot t r c).entry i j *ℤ x j)
    (λ j. (t.entry i j *ℤ t.entry r c -ℤ t.entry i c *ℤ t.entry r j) *ℤ x j)
    (λ j _. ap (λ (z : ℤ). z *ℤ x j) (pivot-other t r c i j d))
    ∙ sum_to-combine (suc (unknowns p)) (t.entry i) (t.entry r) x (t.entry r c) (t.entry i c)

-- if the rows of a tableau are 0 at x, they are 0 after a pivot
pub vanishes-after : (p : LinearProgram) (t : Tableau) (r c : ℕ) (x : ℕ → ℤ) → r < p.rows → Vanishes p t x
    → Vanishes p (pivot t r c) x
vanishes-after p t r c x l v i m = go (same_or_other i r)
  where
    both_zero : (a b : ℤ) → a ≡ pos 0 → b ≡ pos 0 → a *ℤ t.entry r c -ℤ t.entry i c *ℤ b ≡ pos 0
    both_zero a b e f = omega (arith, ints, ap (λ (z : ℤ). z *ℤ t.entry r c) e, ap (λ (z : ℤ). t.entry i c *ℤ z) f)

    go : (i ≡ r) ⊎ (i ≢ r) → row_at p (pivot t r c) i x ≡ pos 0
    go (inl e) = subst (λ (k : ℕ). row_at p (pivot t r c) k x ≡ pos 0) (sym e) (row_at-pivot p t r c x ∙ v r l)
    go (inr d) = row_at-other p t r c i x d ∙ both_zero _ _ (v i m) (v r l)

-- if the rows are 0 at x after a pivot at an entry above 0, they are 0 before it
pub vanishes-before : (p : LinearProgram) (t : Tableau) (r c : ℕ) (x : ℕ → ℤ) → r < p.rows → pos 0 <ℤ t.entry r c
    → Vanishes p (pivot t r c) x → Vanishes p t x
vanishes-before p t r c x l positive v i m = go (same_or_other i r)
  where
    at_row : row_at p t r x ≡ pos 0
    at_row = sym (row_at-pivot p t r c x) ∙ v r l

    clear : (e y a b : ℤ) → b ≡ pos 0 → a *ℤ e -ℤ y *ℤ b ≡ pos 0 → e *ℤ a ≡ e *ℤ pos 0
    clear e y a b f g = omega (arith, ints, g, ap (λ (z : ℤ). y *ℤ z) f)

    go : (i ≡ r) ⊎ (i ≢ r) → row_at p t i x ≡ pos 0
    go (inl e) = subst (λ (k : ℕ). row_at p t k x ≡ pos 0) (sym e) at_row
    go (inr d) =
        mul-cancel_ℤ (t.entry r c) (row_at p t i x) (pos 0) positive
        (clear (t.entry r c) (t.entry i c) (row_at p t i x) (row_at p t r x) at_row
        (sym (row_at-other p t r c i x d) ∙ v i m))

-- where the rows are 0, a pivot multiplies the value of a cost row by its entry
cost_at-pivot : (p : LinearProgram) (t : Tableau) (r c q : ℕ) (x : ℕ → ℤ) → r < p.rows → Vanishes p t x
    → cost_at p (pivot t r c) q x ≡ cost_at p t q x *ℤ t.entry r c
cost_at-pivot p t r c q x l v =
    row_at-other p t r c (cost_row p q) x (omega arith) ∙ drop (cost_at p t q x *ℤ t.entry r c) (t.entry (cost_row p q) c) (row_at p t r x) (v r l)
  where
    drop : (a y b : ℤ) → b ≡ pos 0 → a -ℤ y *ℤ b ≡ a
    drop a y b e = omega (arith, ints, ap (λ (z : ℤ). y *ℤ z) e)

-- the rows of both tableaux are 0 at the same points, and at these each cost row has the same value over its scale
pub record Shares (p : LinearProgram) (t u : Tableau) : Type 0 where
  pub there : (x : ℕ → ℤ) → Vanishes p t x → Vanishes p u x
  pub back : (x : ℕ → ℤ) → Vanishes p u x → Vanishes p t x
  pub costs : (q : ℕ) (x : ℕ → ℤ) → Vanishes p t x
      → cost_at p t q x *ℤ u.scale (cost_row p q) ≡ cost_at p u q x *ℤ t.scale (cost_row p q)

-- sharing is reflexive
pub shares-self : (p : LinearProgram) (t : Tableau) → Shares p t t
shares-self p t = record { there = λ x v. v; back = λ x v. v; costs = λ q x v. refl }

-- sharing is symmetric
pub shares-sym : (p : LinearProgram) (t u : Tableau) → Shares p t u → Shares p u t
shares-sym p t u h = record { there = h.back; back = h.there; costs = λ q x v. sym (h.costs q x (h.back x v)) }

-- sharing is preserved by a pivot of the second tableau
pub shares-pivot : (p : LinearProgram) (s t : Tableau) (r c : ℕ) → r < p.rows → pos 0 <ℤ t.entry r c → Shares p s t
    → Shares p s (pivot t r c)
shares-pivot p s t r c l positive h = record {
  there = λ x v. vanishes-after p t r c x l (h.there x v);
  back = λ x v. h.back x (vanishes-before p t r c x l positive v);
  costs = λ q x v.
      after (cost_at p s q x) (cost_at p t q x) (s.scale (cost_row p q)) (t.scale (cost_row p q)) (t.entry r c) _ _ (h.costs q x v)
      (pivot-other_scale t r c (cost_row p q) (omega arith)) (cost_at-pivot p t r c q x l (h.there x v));
}
  where
    after : (a b s' t' e n m : ℤ) → a *ℤ t' ≡ b *ℤ s' → n ≡ t' *ℤ e → m ≡ b *ℤ e → a *ℤ n ≡ m *ℤ s'
    after a b s' t' e n m h f g =
        ap (λ (z : ℤ). a *ℤ z) f
        ∙ (identity_by_one (a ∷ b ∷ s' ∷ t' ∷ e ∷ []) (variable 0 ⊗ (variable 3 ⊗ variable 4)) ((variable 1 ⊗ variable 4) ⊗ variable 2)
        (variable 4) (variable 0 ⊗ variable 3) (variable 1 ⊗ variable 2) h refl
        ∙ ap (λ (z : ℤ). z *ℤ s') (sym g))
