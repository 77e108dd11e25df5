-- The sequence of tableaux of a program is a walk, and no basis occurs twice in it.
use Rattle.std.proofs.Common.{◌≡◌, ℕ, zero, suc, ◌<◌, ◌≤◌, ap, arith, refl, sym, ◌∙◌, subst, ◌⊎◌, inl, inr}
use Rattle.std.proofs.Common.{Option, Some, None}
use Rattle.std.proofs.lemmas.Bool.{cases_lt}
use Rattle.linear_forms.specs.LinearProgram.{LinearProgram}
use Rattle.simplex_core.specs.Tableau.{Tableau, first_tableau, pivot}
use Rattle.simplex_core.specs.Bland.{next, next_of, tableau_at}
use Rattle.simplex_core.proofs.SequenceLaws.{tableau_at-is_tableau}
use Rattle.bland_end.specs.Bases.{HaveSameBasis}
use Rattle.bland_end.proofs.Steps.{Step, column_of, row_of, chooser_of, next-step}
use Rattle.bland_end.proofs.Walks.{Walk}
use Rattle.bland_end.proofs.Fickle.{impossible}

-- an optional tableau, or else the first one
abbrev tableau_in : LinearProgram → Option Tableau → Tableau
tableau_in p None = first_tableau p
tableau_in p (Some t) = t

-- the tableau after k pivots, or the first one if the sequence ends earlier
abbrev pub seen : LinearProgram → ℕ → Tableau
seen p k = tableau_in p (tableau_at p k)

-- if there is a tableau after k pivots, it is the one seen
pub seen-is : (p : LinearProgram) (k : ℕ) (t : Tableau) → tableau_at p k ≡ Some t → seen p k ≡ t
seen-is p k t h = ap (tableau_in p) h

-- if there is a next tableau, there is one before it
before-there : (p : LinearProgram) (k : ℕ) (u : Tableau) → tableau_at p (suc k) ≡ Some u
    → (tableau_at p k ≡ Some (seen p k)) × (next p (seen p k) ≡ Some u)
before-there p k u h = go (tableau_at p k) refl h
  where
    go : (o : Option Tableau) → tableau_at p k ≡ o → next_of p o ≡ Some u
        → (tableau_at p k ≡ Some (seen p k)) × (next p (seen p k) ≡ Some u)
    go None e h = cc
    go (Some t) e h = (e ∙ ap Some (sym (seen-is p k t e)), ap (next p) (seen-is p k t e) ∙ h)

-- if there is a tableau after b pivots, there is one after fewer
pub seen-before : (p : LinearProgram) (b : ℕ) (u : Tableau) → tableau_at p b ≡ Some u → (i : ℕ) → i ≤ b → tableau_at p i ≡ Some (seen p i)
seen-before p zero u h i l =
    let e : zero ≡ i = omega arith in
    subst (λ k. tableau_at p k ≡ Some (seen p k)) e (h ∙ ap Some (sym (seen-is p zero u h)))
seen-before p (suc b) u h i l = go (cases_lt b i) (λ m. seen-before p b (seen p b) (before-there p b u h).0 i m)
  where
    go : (b < i) ⊎ (i ≤ b) → (i ≤ b → tableau_at p i ≡ Some (seen p i)) → tableau_at p i ≡ Some (seen p i)
    go (inl m) earlier =
        let e : suc b ≡ i = omega arith in
        subst (λ k. tableau_at p k ≡ Some (seen p k)) e (h ∙ ap Some (sym (seen-is p (suc b) u h)))
    go (inr m) earlier = earlier m

-- the sequence up to an existing tableau is a walk
pub sequence-walk : (p : LinearProgram) (a b : ℕ) (u : Tableau) → tableau_at p b ≡ Some u → Walk p a b
sequence-walk p a b u h = record {
  at = seen p;
  column = λ i. column_of p (seen p i);
  row = λ i. row_of p (seen p i);
  chooser = λ i. chooser_of p (seen p i);
  tableau = λ i l m. tableau_at-is_tableau p i (seen p i) (seen-before p b u h i m);
  step = λ i l m. (stepped i m).0;
  pivoted = λ i l m. (stepped i m).1;
}
  where
    stepped : (i : ℕ) → i < b
        → Step p (seen p i) (column_of p (seen p i)) (row_of p (seen p i)) (chooser_of p (seen p i))
        × (seen p (suc i) ≡ pivot (seen p i) (row_of p (seen p i)) (column_of p (seen p i)))
    stepped i m = next-step p (seen p i) (seen p (suc i)) (before-there p i (seen p (suc i)) (seen-before p b u h (suc i) m)).1

-- no two tableaux of the sequence have the same basis
pub never-twice : (p : LinearProgram) (a b : ℕ) (t u : Tableau) → a < b → tableau_at p a ≡ Some t → tableau_at p b ≡ Some u
    → ¬ HaveSameBasis p t u
unfolding sequence-walk
never-twice p a b t u l h k same =
    impossible p a b (sequence-walk p a b u k) l
    (subst (λ v. HaveSameBasis p v (seen p b)) (sym (seen-is p a t h)) (subst (λ v. HaveSameBasis p t v) (sym (seen-is p b u k)) same))
