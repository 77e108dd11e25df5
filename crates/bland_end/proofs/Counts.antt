-- A basis has as many unknowns as there are rows, so there are fewer pivots than such sets of unknowns.
use Rattle.std.proofs.Common.{◌≡◌, ℕ, zero, suc, ◌<◌, ap, arith, refl, sym, ◌∙◌, subst, ◌⊎◌, inl, inr}
use Rattle.std.proofs.Common.{Bool, true, false, ◌||◌, Some}
use Rattle.std.specs.Prelude.{nat_eq, if◌then◌else◌}
use Rattle.std.proofs.lemmas.Bool.{eqb-true, eq-eqb, ne_eqb}
use Rattle.int_laws.proofs.SumLaws.{last_or_before}
use Rattle.linear_forms.specs.LinearProgram.{LinearProgram}
use Rattle.simplex_core.specs.Search.{some}
use Rattle.simplex_core.specs.Tableau.{Tableau, unknowns}
use Rattle.simplex_core.specs.Bland.{tableau_at}
use Rattle.simplex_core.proofs.Searches.{some-one, some-here}
use Rattle.simplex_core.proofs.Invariant.{IsTableauOf}
use Rattle.simplex_core.proofs.Leaving.{basis-apart}
use Rattle.simplex_core.proofs.SequenceLaws.{tableau_at-is_tableau}
use Rattle.bland_end.specs.Bases.{HaveSameBasis}
use Rattle.bland_end.specs.Counting.{choose, bases_of}
use Rattle.bland_end.proofs.Sequences.{seen, seen-before, never-twice}
use Rattle.bland_end.proofs.Ranks.{count, rank, rank-below, rank-same, few_below}

-- two sets with the same numbers below n have equally many
count-same : (n : ℕ) (f g : ℕ → Bool) → ((j : ℕ) → j < n → f j ≡ g j) → count n f ≡ count n g
count-same zero f g h = refl
count-same (suc n) f g h =
    ap (λ (v : Bool). if v then suc (count n f) else count n f) (h n (omega arith))
    ∙ ap (λ k. if g n then suc k else k) (count-same n f g (λ j l. h j (omega arith)))

-- the empty set has no numbers
count-none : (n : ℕ) → count n (λ j. false) ≡ 0
count-none zero = refl
count-none (suc n) = count-none n

-- adding a number to a set adds one to the count
count-more : (n c : ℕ) (f : ℕ → Bool) → c < n → f c ≡ false → count n (λ j. f j || nat_eq c j) ≡ suc (count n f)
count-more zero c f l e = absurd (omega arith)
count-more (suc n) c f l e = go (last_or_before n c l) (λ m. count-more n c f m e)
  where
    or_false : (v w : Bool) → w ≡ false → (v || w) ≡ v
    or_false true w h = refl
    or_false false w h = h

    or_true : (v w : Bool) → w ≡ true → (v || w) ≡ true
    or_true true w h = refl
    or_true false w h = h

    counted : (v w : Bool) (x y : ℕ) → v ≡ w → x ≡ suc y → (if v then suc x else x) ≡ suc (if w then suc y else y)
    counted true true x y h k = ap suc k
    counted false false x y h k = k
    counted true false x y h k = cc
    counted false true x y h k = cc

    go : (c ≡ n) ⊎ (c < n) → (c < n → count n (λ j. f j || nat_eq c j) ≡ suc (count n f))
        → count (suc n) (λ j. f j || nat_eq c j) ≡ suc (count (suc n) f)
    go (inl s) ih =
        ap (λ (v : Bool). if v then suc (count n (λ j. f j || nat_eq c j)) else count n (λ j. f j || nat_eq c j))
        (or_true (f n) (nat_eq c n) (eq-eqb c n s))
        ∙ (ap suc (count-same n (λ j. f j || nat_eq c j) f (λ j m. or_false (f j) (nat_eq c j) (ne_eqb c j (omega arith))))
        ∙ ap (λ (v : Bool). suc (if v then suc (count n f) else count n f)) (sym (ap f (sym s) ∙ e)))
    go (inr m) ih = counted (f n || nat_eq c n) (f n) _ _ (or_false (f n) (nat_eq c n) (ne_eqb c n (omega arith))) (ih m)

-- f maps some number below m to j
abbrev pub takes : ℕ → (ℕ → ℕ) → ℕ → Bool
takes m f j = some m (λ i. nat_eq (f i) j)

-- different numbers below n are counted as many times as there are
count-takes : (n m : ℕ) (f : ℕ → ℕ) → ((i : ℕ) → i < m → f i < n) → ((i j : ℕ) → i < m → j < m → f i ≡ f j → i ≡ j)
    → count n (takes m f) ≡ m
count-takes n zero f below apart = count-none n
count-takes n (suc m) f below apart =
    count-more n (f m) (takes m f) (below m (omega arith)) (new (takes m f (f m)) refl)
    ∙ ap suc (count-takes n m f (λ i l. below i (omega arith)) (λ i j l k. apart i j (omega arith) (omega arith)))
  where
    new : (v : Bool) → takes m f (f m) ≡ v → takes m f (f m) ≡ false
    new true e =
        let found = some-one m (λ i. nat_eq (f i) (f m)) e in
        let same = apart found.0 m (let l = found.1 in omega arith) (omega arith) (eqb-true (f found.0) (f m) found.2) in
        absurd (let l = found.1 in omega arith)
    new false e = e

-- tableaux whose bases have the same numbers below the number of unknowns have the same basis
same-basis : (p : LinearProgram) (t u : Tableau) → IsTableauOf p t → IsTableauOf p u
    → ((j : ℕ) → j < unknowns p → takes p.rows t.basis j ≡ takes p.rows u.basis j) → HaveSameBasis p t u
same-basis p t u h g same = record {
  there = λ j (i, l, e). found_in u j
      (sym (same j (subst (λ k. k < unknowns p) e (h.basic i l))) ∙ some-here p.rows i (λ k. nat_eq (t.basis k) j) l (eq-eqb _ _ e));
  back = λ j (i, l, e). found_in t j
      (same j (subst (λ k. k < unknowns p) e (g.basic i l)) ∙ some-here p.rows i (λ k. nat_eq (u.basis k) j) l (eq-eqb _ _ e));
}
  where
    found_in : (v : Tableau) (j : ℕ) → takes p.rows v.basis j ≡ true → (i : ℕ) × (i < p.rows) × (v.basis i ≡ j)
    found_in v j e = let found = some-one p.rows (λ k. nat_eq (v.basis k) j) e in (found.0, found.1, eqb-true _ _ found.2)

-- there are fewer pivots than bases
pub pivots-few : (p : LinearProgram) (k : ℕ) (t : Tableau) → tableau_at p k ≡ Some t → k < bases_of p
pivots-few p k t h =
    few_below (λ i. rank (unknowns p) (taken i)) (suc k) (bases_of p) below
    (λ i j l m e.
    never-twice p i j (seen p i) (seen p j) l (there i (omega arith)) (there j (omega arith))
    (same-basis p (seen p i) (seen p j) (is i (omega arith)) (is j (omega arith))
    (rank-same (unknowns p) (taken i) (taken j) (size i (omega arith) ∙ sym (size j (omega arith))) e)))
  where
    taken : ℕ → ℕ → Bool
    taken i = takes p.rows (seen p i).basis

    there : (i : ℕ) → i < suc k → tableau_at p i ≡ Some (seen p i)
    there i l = seen-before p k t h i (omega arith)

    is : (i : ℕ) → i < suc k → IsTableauOf p (seen p i)
    is i l = tableau_at-is_tableau p i (seen p i) (there i l)

    size : (i : ℕ) → i < suc k → count (unknowns p) (taken i) ≡ p.rows
    size i l =
        count-takes (unknowns p) p.rows (seen p i).basis (is i l).basic (λ m n lm ln e. basis-apart p (seen p i) m n (is i l) lm ln e)

    below : (i : ℕ) → i < suc k → rank (unknowns p) (taken i) < bases_of p
    below i l = subst (λ n. rank (unknowns p) (taken i) < choose (unknowns p) n) (size i l) (rank-below (unknowns p) (taken i))
