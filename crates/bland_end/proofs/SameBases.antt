-- A basis determines its tableau: tableaux that share zeros and costs and have the same basis have the same fractions.
use Rattle.std.proofs.Common.{◌≡◌, ◌≢◌, ℕ, suc, ◌<◌, ap, arith, refl, sym, ◌∙◌, [], ◌∷◌}
use Rattle.std.specs.Prelude.{ℤ, pos, negsuc, ◌+ℤ◌, ◌-ℤ◌, ◌*ℤ◌}
use Rattle.int_laws.specs.Polynomial.{variable, constant, ◌⊕◌, ◌⊖◌, ◌⊗◌}
use Rattle.int_laws.proofs.Identities.{identity, identity_by_two}
use Rattle.int_laws.proofs.OrderLaws.{mul-cancel_ℤ}
use Rattle.linear_forms.specs.LinearProgram.{LinearProgram}
use Rattle.simplex_core.specs.Tableau.{Tableau, unknowns, cost_row}
use Rattle.simplex_core.proofs.Points.{CommonScale}
use Rattle.simplex_core.proofs.Rays.{ray, ray_value}
use Rattle.bland_end.specs.Bases.{HaveSameBasis}
use Rattle.bland_end.proofs.Canonical.{IsCanonical, basic-unique}
use Rattle.bland_end.proofs.Kernels.{cost_at, Shares}
use Rattle.bland_end.proofs.Directions.{scales_of, direction-own, direction-none, direction-vanishes, direction-cost}

module _ (p : LinearProgram) (t u : Tableau) (h : IsCanonical p t) (g : IsCanonical p u) (same : HaveSameBasis p t u)
    (shares : Shares p t u) where
  -- rows that are solved for the same unknown have the same fractions
  pub rows-same : (i k c : ℕ) → c < suc (unknowns p) → i < p.rows → k < p.rows → t.basis i ≡ u.basis k
      → t.entry i c *ℤ u.scale k ≡ u.entry k c *ℤ t.scale i
  rows-same i k c lc li lk e =
      mul-cancel_ℤ (s.q i) _ _ (s.factors i li)
      (solved (t.entry i c) (u.entry k c) (u.scale k) (t.scale i) (s.q i) s.d vanishes (s.times i li))
    where
      s : CommonScale p.rows t.scale
      s = scales_of p t h

      zero_at : (j : ℕ) → j < p.rows → j ≢ i → u.entry k (t.basis j) ≡ pos 0
      zero_at j lj d =
          let found = same.there (t.basis j) (j, lj, refl) in
          ap (λ (n : ℕ). u.entry k n) (sym found.2)
          ∙ g.other k found.0 (omega arith) found.1
          (λ f. d (basic-unique p t j i h lj li (sym found.2 ∙ (ap (λ (n : ℕ). u.basis n) (sym f) ∙ sym e))))

      vanishes : u.entry k c *ℤ s.d +ℤ u.scale k *ℤ ((pos 0 -ℤ t.entry i c) *ℤ s.q i) ≡ pos 0
      vanishes =
          ap (λ (z : ℤ). u.entry k c *ℤ s.d +ℤ z *ℤ ray_value p t s c i) (sym (ap (λ (n : ℕ). u.entry k n) e ∙ g.own k lk))
          ∙ (sym (direction-own p t s c i (u.entry k) h lc li zero_at)
          ∙ shares.there (ray p t s c) (direction-vanishes p t s c h lc) k lk)

      solved : (a b v w q d : ℤ) → b *ℤ d +ℤ v *ℤ ((pos 0 -ℤ a) *ℤ q) ≡ pos 0 → q *ℤ w ≡ d → q *ℤ (a *ℤ v) ≡ q *ℤ (b *ℤ w)
      solved a b v w q d m n =
          identity_by_two (a ∷ b ∷ v ∷ w ∷ q ∷ d ∷ [])
          (variable 4 ⊗ (variable 0 ⊗ variable 2)) (variable 4 ⊗ (variable 1 ⊗ variable 3))
          (constant (negsuc 0)) (variable 1 ⊗ variable 5 ⊕ variable 2 ⊗ ((constant (pos 0) ⊖ variable 0) ⊗ variable 4)) (constant (pos 0))
          (constant (pos 0) ⊖ variable 1) (variable 4 ⊗ variable 3) (variable 5)
          m n refl

  -- the cost rows have the same fractions
  pub costs-same : (q c : ℕ) → q < 3 → c < suc (unknowns p)
      → t.entry (cost_row p q) c *ℤ u.scale (cost_row p q) ≡ u.entry (cost_row p q) c *ℤ t.scale (cost_row p q)
  costs-same q c few lc =
      mul-cancel_ℤ s.d _ _ s.positive
      (solved (t.entry (cost_row p q) c) (u.entry (cost_row p q) c) (t.scale (cost_row p q)) (u.scale (cost_row p q)) s.d
      (cost_at p t q (ray p t s c)) (cost_at p u q (ray p t s c)) (direction-cost p t s q c h few lc) other
      (shares.costs q (ray p t s c) (direction-vanishes p t s c h lc)))
    where
      s : CommonScale p.rows t.scale
      s = scales_of p t h

      other : cost_at p u q (ray p t s c) ≡ u.entry (cost_row p q) c *ℤ s.d
      other =
          direction-none p t s c (u.entry (cost_row p q)) h lc
          (λ k n.
          let found = same.there (t.basis k) (k, n, refl) in
          ap (λ (j : ℕ). u.entry (cost_row p q) j) (sym found.2) ∙ g.other (cost_row p q) found.0 (omega arith) found.1 (let m = found.1 in omega arith))

      solved : (a b v w d x y : ℤ) → x ≡ a *ℤ d → y ≡ b *ℤ d → x *ℤ w ≡ y *ℤ v → d *ℤ (a *ℤ w) ≡ d *ℤ (b *ℤ v)
      solved a b v w d x y f e m =
          swapped a w d ∙ (ap (λ (z : ℤ). z *ℤ w) (sym f) ∙ (m ∙ (ap (λ (z : ℤ). z *ℤ v) e ∙ sym (swapped b v d))))
        where
          swapped : (a w d : ℤ) → d *ℤ (a *ℤ w) ≡ (a *ℤ d) *ℤ w
          swapped a w d = identity (a ∷ w ∷ d ∷ []) (variable 2 ⊗ (variable 0 ⊗ variable 1)) ((variable 0 ⊗ variable 2) ⊗ variable 1) refl
