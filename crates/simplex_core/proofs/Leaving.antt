-- The leaving row is unique, and searches by ascending number find the least one.
use Rattle.std.proofs.Common.{◌≡◌, ◌≢◌, ℕ, zero, suc, ◌+◌, ◌<◌, ◌≤◌, ap, arith, refl, sym, ◌∙◌, subst, ◌⊎◌, inl, inr}
use Rattle.std.proofs.Common.{Bool, true, false, Option, Some, None}
use Rattle.std.specs.Prelude.{ℤ, pos, ◌*ℤ◌, ◌<ℤ◌, int_lt, nat_lt, nat_eq, not, ◌&&◌, ◌||◌, if◌then◌else◌}
use Rattle.std.proofs.lemmas.Bool.{cases_lt, lt-ltb}
use Rattle.std.proofs.lemmas.Int.{ints}
use Rattle.int_laws.proofs.SumLaws.{sum_to-single}
use Rattle.linear_forms.specs.LinearProgram.{LinearProgram}
use Rattle.simplex_core.specs.Search.{or_else, least}
use Rattle.simplex_core.specs.Tableau.{Tableau, unknowns}
use Rattle.simplex_core.specs.Bland.{goes_before, is_candidate, leaving, IsBest}
use Rattle.simplex_core.specs.Cells.{IsBestOf}
use Rattle.simplex_core.proofs.Searches.{and-both, second_fails, every-each, least-found, last_or_before}
use Rattle.simplex_core.proofs.Invariant.{IsTableauOf, same_or_other}
use Rattle.simplex_core.proofs.Regions.{choose-same, choose-other}
use Rattle.simplex_core.proofs.Points.{point}
use Rattle.simplex_core.proofs.Choices.{IsBefore, ratio, before_trans, before_irrefl, goes_before-true}
use Rattle.simplex_core.proofs.Choices.{goes_before-false, self_not_before, candidate-positive, leaving-there, not-true}

-- if no number below n passes and n does, n is the least
pub least-here : (n m : ℕ) (f : ℕ → Bool) → n < m → least n f ≡ None → f n ≡ true → least m f ≡ Some n
least-here n zero f l none here = absurd (omega arith)
least-here n (suc m) f l none here = go (last_or_before m n l) (λ k. least-here n m f k none here)
  where
    go : (n ≡ m) ⊎ (n < m) → (n < m → least m f ≡ Some n) → least (suc m) f ≡ Some n
    go (inl e) ih =
        ap (λ (o : Option ℕ). or_else o (if f m then Some m else None)) (subst (λ (k : ℕ). least k f ≡ None) e none)
        ∙ (ap (λ (b : Bool). if b then Some m else None) (subst (λ (k : ℕ). f k ≡ true) e here) ∙ ap Some (sym e))
    go (inr k) ih = ap (λ (o : Option ℕ). or_else o (if f m then Some m else None)) (ih k)

-- if neither n nor a number below it passes, none below n + 1 does
pub least-more : (n : ℕ) (f : ℕ → Bool) → least n f ≡ None → f n ≡ false → least (suc n) f ≡ None
least-more n f none here =
    ap (λ (o : Option ℕ). or_else o (if f n then Some n else None)) none ∙ ap (λ (b : Bool). if b then Some n else None) here

-- the basic columns of two rows are different
pub basis-apart : (p : LinearProgram) (t : Tableau) (i r : ℕ) → IsTableauOf p t → i < p.rows → r < p.rows → t.basis i ≡ t.basis r → i ≡ r
basis-apart p t i r h li lr e = go (same_or_other r i)
  where
    go : (r ≡ i) ⊎ (r ≢ i) → i ≡ r
    go (inl s) = sym s
    go (inr d) =
        absurd (clash _ (h.positive r (omega arith)) (sym (h.own r lr) ∙ (ap (λ (j : ℕ). t.entry r j) (sym e) ∙ h.other r i (omega arith) li d)))
      where
        clash : (s : ℤ) → pos 0 <ℤ s → s ≡ pos 0 → ⊥
        clash s a b = omega (arith, ints)

-- a point of the basis has, at the column that a row is solved for, the row's number
pub point-at : (p : LinearProgram) (t : Tableau) (v : ℕ → ℤ) (i j : ℕ) → IsTableauOf p t → i < p.rows → t.basis i ≡ j → point p.rows t.basis v j ≡ v i
point-at p t v i j h l e =
    sum_to-single p.rows i (λ k. if nat_eq (t.basis k) j then v k else pos 0) l
    (λ k m d. choose-other (t.basis k) j (v k) (pos 0) (λ f. d (basis-apart p t k i h m l (f ∙ sym e))))
    ∙ choose-same (t.basis i) j (v i) (pos 0) e

-- if neither of two rows goes before the other, their basic columns are equal
tied : (p : LinearProgram) (t : Tableau) (c i r : ℕ) → goes_before p t c i r ≡ false → goes_before p t c r i ≡ false → t.basis i ≡ t.basis r
tied p t c i r a b = go (cases_lt (t.basis i) (t.basis r)) (cases_lt (t.basis r) (t.basis i))
  where
    parts : (u v w : Bool) → (u || (not v && w)) ≡ false → w ≡ true → (u ≡ false) × (v ≡ true)
    parts true v w e f = cc
    parts false true w e f = (refl, refl)
    parts false false true e f = cc
    parts false false false e f = cc

    left : Bool
    left = int_lt (t.entry i (unknowns p) *ℤ t.entry r c) (t.entry r (unknowns p) *ℤ t.entry i c)

    right : Bool
    right = int_lt (t.entry r (unknowns p) *ℤ t.entry i c) (t.entry i (unknowns p) *ℤ t.entry r c)

    first : (u v w x : Bool) → (u || (not v && w)) ≡ false → (v || (not u && x)) ≡ false → w ≡ true → ⊥
    first true v w x e f g = cc
    first false true w x e f g = cc
    first false false true x e f g = cc
    first false false false x e f g = cc

    go : (t.basis i < t.basis r) ⊎ (t.basis r ≤ t.basis i) → (t.basis r < t.basis i) ⊎ (t.basis i ≤ t.basis r) → t.basis i ≡ t.basis r
    go (inl l) w = absurd (first left right (nat_lt (t.basis i) (t.basis r)) (nat_lt (t.basis r) (t.basis i)) a b (lt-ltb _ _ l))
    go (inr l) (inl m) = absurd (first right left (nat_lt (t.basis r) (t.basis i)) (nat_lt (t.basis i) (t.basis r)) b a (lt-ltb _ _ m))
    go (inr l) (inr m) = omega arith

-- a candidate that no other goes before is the leaving row
pub best-leaves : (p : LinearProgram) (t : Tableau) (c r : ℕ) → IsTableauOf p t → IsBest p t c p.rows r → leaving p t c ≡ Some r
best-leaves p t c r h best = go (leaving-there p t c r best.row (candidate-positive t c r best.candidate))
  where
    go : (k : ℕ) × (leaving p t c ≡ Some k) → leaving p t c ≡ Some r
    go found =
        let k = found.0 in
        let passes = least-found p.rows _ k found.1 in
        let parts = and-both _ _ passes.1 in
        let before = second_fails (is_candidate t c r) (goes_before p t c r k)
        (not-true _ (every-each p.rows (λ i. not (is_candidate t c i && goes_before p t c i k)) parts.1 r best.row)) best.candidate in
        let same = basis-apart p t k r h passes.0 best.row (tied p t c k r (best.best k passes.0 parts.0) before) in
        found.1 ∙ ap Some same

-- none of m + 1 rows is a candidate
pub best-none : (p : LinearProgram) (t : Tableau) (c m : ℕ) → IsBestOf p t c m None → is_candidate t c m ≡ false → IsBestOf p t c (m + 1) None
best-none p t c m none here i l = go (last_or_before m i (omega arith))
  where
    go : (i ≡ m) ⊎ (i < m) → is_candidate t c i ≡ false
    go (inl e) = ap (λ (k : ℕ). is_candidate t c k) e ∙ here
    go (inr k) = none i k

-- the first candidate is the best
pub best-first : (p : LinearProgram) (t : Tableau) (c m : ℕ) → IsBestOf p t c m None → is_candidate t c m ≡ true → IsBest p t c (m + 1) m
best-first p t c m none here = record { row = omega arith; candidate = here; best = λ i l cand. go i cand (last_or_before m i (omega arith)) }
  where
    go : (i : ℕ) → is_candidate t c i ≡ true → (i ≡ m) ⊎ (i < m) → goes_before p t c i m ≡ false
    go i cand (inl e) = ap (λ (k : ℕ). goes_before p t c k m) e ∙ self_not_before p t c m
    go i cand (inr k) = let a = none i k in cc

-- the best row is unchanged if the next row is no candidate, or doesn't go before it
pub best-keeps : (p : LinearProgram) (t : Tableau) (c m r : ℕ) → IsBest p t c m r → (is_candidate t c m ≡ true → goes_before p t c m r ≡ false) → IsBest p t c (m + 1) r
best-keeps p t c m r h here = record { row = let l = h.row in omega arith; candidate = h.candidate; best = λ i l cand. go i cand (last_or_before m i (omega arith)) }
  where
    go : (i : ℕ) → is_candidate t c i ≡ true → (i ≡ m) ⊎ (i < m) → goes_before p t c i r ≡ false
    go i cand (inl e) = ap (λ (k : ℕ). goes_before p t c k r) e ∙ here (ap (λ (k : ℕ). is_candidate t c k) (sym e) ∙ cand)
    go i cand (inr k) = h.best i k cand

-- a candidate that goes before the best row is the new best row
pub best-changes : (p : LinearProgram) (t : Tableau) (c m r : ℕ) → IsBest p t c m r → is_candidate t c m ≡ true → goes_before p t c m r ≡ true → IsBest p t c (m + 1) m
best-changes p t c m r h here before = record { row = omega arith; candidate = here; best = λ i l cand. go i cand (last_or_before m i (omega arith)) (goes_before p t c i m) refl }
  where
    go : (i : ℕ) → is_candidate t c i ≡ true → (i ≡ m) ⊎ (i < m) → (v : Bool) → goes_before p t c i m ≡ v → goes_before p t c i m ≡ false
    go i cand w false e = e
    go i cand (inl s) true e =
        absurd (before_irrefl (ratio p t c m) (subst (λ (k : ℕ). IsBefore (ratio p t c k) (ratio p t c m)) s (goes_before-true p t c i m e)))
    go i cand (inr k) true e =
        absurd (goes_before-false p t c i r (h.best i k cand)
        (before_trans (ratio p t c i) (ratio p t c m) (ratio p t c r) (candidate-positive t c i cand) (candidate-positive t c m here) (candidate-positive t c r h.candidate)
        (goes_before-true p t c i m e) (goes_before-true p t c m r before)))
