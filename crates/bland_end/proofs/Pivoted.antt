-- A basis determines its tableau, among all tableaux that pivots lead to.
use Rattle.std.proofs.Common.{◌≡◌, ℕ, zero, suc, ◌<◌, arith, refl, sym, ap, ◌∙◌, subst, Option, Some, None}
use Rattle.std.proofs.Common.{[], ◌∷◌}
use Rattle.std.specs.Prelude.{ℤ, pos, ◌*ℤ◌}
use Rattle.std.proofs.lemmas.Int.{ints}
use Rattle.int_laws.specs.Polynomial.{variable, ◌⊗◌}
use Rattle.int_laws.proofs.Identities.{identity}
use Rattle.linear_forms.specs.LinearProgram.{LinearProgram}
use Rattle.simplex_core.specs.Tableau.{Tableau, unknowns, cost_row, first_tableau}
use Rattle.simplex_core.specs.Bland.{next, next_of, tableau_at}
use Rattle.simplex_core.proofs.First.{first-scale, first-is_tableau}
use Rattle.simplex_core.proofs.Choices.{leaving-is_pivot}
use Rattle.simplex_core.proofs.SequenceLaws.{next-is, entering-enters}
use Rattle.bland_end.specs.Bases.{HaveSameBasis}
use Rattle.bland_end.specs.Pivoted.{ComesByPivots, AtFirst, AfterPivot}
use Rattle.bland_end.proofs.Canonical.{IsCanonical, tableau-canonical, pivot-canonical}
use Rattle.bland_end.proofs.Kernels.{cost_at, Shares, shares-self, shares-pivot}
use Rattle.bland_end.proofs.SameBases.{rows-same, costs-same}

-- a tableau that pivots lead to is in canonical form
pub pivoted-canonical : (p : LinearProgram) (t : Tableau) → ComesByPivots p t → IsCanonical p t
pivoted-canonical p t AtFirst = tableau-canonical p (first_tableau p) (first-is_tableau p)
pivoted-canonical p t (AfterPivot {t = u} r c row column positive h) =
    pivot-canonical p u r c row column positive (pivoted-canonical p u h)

-- a tableau that pivots lead to shares zeros and costs with the first one
pivoted-shares : (p : LinearProgram) (t : Tableau) → ComesByPivots p t → Shares p (first_tableau p) t
pivoted-shares p t AtFirst = shares-self p (first_tableau p)
pivoted-shares p t (AfterPivot {t = u} r c row column positive h) =
    shares-pivot p (first_tableau p) u r c row positive (pivoted-shares p u h)

-- two tableaux that share with the first one share with each other
shares-from_first : (p : LinearProgram) (t u : Tableau) → Shares p (first_tableau p) t → Shares p (first_tableau p) u
    → Shares p t u
shares-from_first p t u h k = record {
  there = λ x v. k.there x (h.back x v);
  back = λ x v. h.there x (k.back x v);
  costs = λ q x v.
      joined (cost_at p (first_tableau p) q x) (cost_at p t q x) (cost_at p u q x) (t.scale (cost_row p q))
      (u.scale (cost_row p q)) ((first_tableau p).scale (cost_row p q)) (first-scale p (cost_row p q))
      (h.costs q x (h.back x v)) (k.costs q x (h.back x v));
}
  where
    over_one : (a b s o : ℤ) → o ≡ pos 1 → a *ℤ s ≡ b *ℤ o → a *ℤ s ≡ b
    over_one a b s o e f = omega (arith, ints, f, ap (λ (z : ℤ). b *ℤ z) e)

    joined : (a b c s r o : ℤ) → o ≡ pos 1 → a *ℤ s ≡ b *ℤ o → a *ℤ r ≡ c *ℤ o → b *ℤ r ≡ c *ℤ s
    joined a b c s r o e f g =
        ap (λ (z : ℤ). z *ℤ r) (sym (over_one a b s o e f))
        ∙ (identity (a ∷ s ∷ r ∷ []) ((variable 0 ⊗ variable 1) ⊗ variable 2) ((variable 0 ⊗ variable 2) ⊗ variable 1) refl
        ∙ ap (λ (z : ℤ). z *ℤ s) (over_one a c r o e g))

module _ (p : LinearProgram) (t u : Tableau) (h : ComesByPivots p t) (k : ComesByPivots p u) (same : HaveSameBasis p t u)
  where
    -- two tableaux that pivots lead to share with each other
    shares : Shares p t u
    shares = shares-from_first p t u (pivoted-shares p t h) (pivoted-shares p u k)

    -- if they have the same basis, they have the same fractions in rows that are solved for the same unknown
    pub pivoted-rows : (i j c : ℕ) → i < p.rows → j < p.rows → t.basis i ≡ u.basis j → c < suc (unknowns p)
        → t.entry i c *ℤ u.scale j ≡ u.entry j c *ℤ t.scale i
    pivoted-rows i j c li lj e lc =
        rows-same p t u (pivoted-canonical p t h) (pivoted-canonical p u k) same shares i j c lc li lj e

    -- if they have the same basis, they have the same fractions in the cost rows
    pub pivoted-costs : (q c : ℕ) → q < 3 → c < suc (unknowns p)
        → t.entry (cost_row p q) c *ℤ u.scale (cost_row p q) ≡ u.entry (cost_row p q) c *ℤ t.scale (cost_row p q)
    pivoted-costs q c few lc =
        costs-same p t u (pivoted-canonical p t h) (pivoted-canonical p u k) same shares q c few lc

-- if pivots lead to a tableau, they lead to the next one
next-pivoted : (p : LinearProgram) (t u : Tableau) → ComesByPivots p t → next p t ≡ Some u → ComesByPivots p u
next-pivoted p t u h e =
    let n = next-is p t u e in
    let enters = entering-enters p t n.column n.enters in
    let inside : n.column < unknowns p = (let l = enters.column in omega (arith, l)) in
    let v = leaving-is_pivot p t n.column n.row inside n.leaves in
    subst (λ (w : Tableau). ComesByPivots p w) n.pivoted (AfterPivot n.row n.column v.row inside v.positive h)

-- pivots lead to each tableau of the sequence
pub sequence-pivoted : (p : LinearProgram) (k : ℕ) (t : Tableau) → tableau_at p k ≡ Some t → ComesByPivots p t
sequence-pivoted p zero t h =
    let e : first_tableau p ≡ t = cc in subst (λ (w : Tableau). ComesByPivots p w) e AtFirst
sequence-pivoted p (suc k) t h = go (tableau_at p k) refl h (λ u. sequence-pivoted p k u)
  where
    go : (o : Option Tableau) → tableau_at p k ≡ o → next_of p o ≡ Some t
        → ((u : Tableau) → tableau_at p k ≡ Some u → ComesByPivots p u) → ComesByPivots p t
    go None e h ih = cc
    go (Some u) e h ih = next-pivoted p u t (ih u e) h
