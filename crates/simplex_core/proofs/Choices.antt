-- The entering column has a leaving row, and together they are a pivot.
use Rattle.std.proofs.Common.{◌≡◌, ℕ, zero, suc, ◌<◌, ap, arith, refl, ◌∙◌, subst, ◌⊎◌, inl, inr, [], ◌∷◌, Bool, true}
use Rattle.std.proofs.Common.{false, Option, Some, None}
use Rattle.std.specs.Prelude.{ℤ, pos, ◌*ℤ◌, ◌≤ℤ◌, ◌<ℤ◌, int_lt, nat_lt, not, ◌&&◌, ◌||◌}
use Rattle.std.proofs.lemmas.Int.{ints}
use Rattle.std.proofs.lemmas.Bool.{lt-ltb, ltb-true}
use Rattle.int_laws.specs.Polynomial.{variable, ◌⊗◌}
use Rattle.int_laws.proofs.Identities.{identity}
use Rattle.int_laws.proofs.OrderLaws.{mul-lt-mul_ℤ, mul-cancel_ℤ, lt-of-mul_ℤ}
use Rattle.linear_forms.specs.LinearProgram.{LinearProgram}
use Rattle.simplex_core.specs.Tableau.{Tableau, unknowns}
use Rattle.simplex_core.specs.Bland.{goes_before, is_candidate, leaving}
use Rattle.simplex_core.proofs.Searches.{and-both, and_no, no_and, second_fails, both-and, every-each, each-every}
use Rattle.simplex_core.proofs.Searches.{least-found, least-none, last_or_before}
use Rattle.simplex_core.proofs.Pivots.{IsPivot}
pub use Rattle.std.proofs.lemmas.Bool.{not-true, not_from_false as not-false}

-- if the test of an order on ℤ passes, the order holds
pub int_lt-true : (a b : ℤ) → int_lt a b ≡ true → a <ℤ b
int_lt-true a b h = omega (arith, ints, h)

-- if the test of an order on ℤ fails, the reverse order holds
pub int_lt-false : (a b : ℤ) → int_lt a b ≡ false → b ≤ℤ a
int_lt-false a b h = omega (arith, ints, h)

-- if an order on ℤ holds, its test passes
pub lt-int_lt : (a b : ℤ) → a <ℤ b → int_lt a b ≡ true
lt-int_lt a b h = go (int_lt a b) refl
  where
    go : (v : Bool) → int_lt a b ≡ v → int_lt a b ≡ true
    go true e = e
    go false e = absurd (omega (arith, ints, h, int_lt-false a b e))

-- if the reverse order on ℤ holds, the test fails
pub le-int_lt : (a b : ℤ) → b ≤ℤ a → int_lt a b ≡ false
le-int_lt a b h = go (int_lt a b) refl
  where
    go : (v : Bool) → int_lt a b ≡ v → int_lt a b ≡ false
    go true e = absurd (omega (arith, ints, h, int_lt-true a b e))
    go false e = e

-- what the order of rows depends on: the right side b, the entry e above 0 and the basic column n
pub record Ratio : Type 0 where
  pub b : ℤ
  pub e : ℤ
  pub n : ℕ

-- the first quotient is less, or the same with a lesser basic column
pub data IsBefore (x y : Ratio) : Type 0 where
  less : (x.b *ℤ y.e) <ℤ (y.b *ℤ x.e) → IsBefore x y
  tie : x.b *ℤ y.e ≡ y.b *ℤ x.e → x.n < y.n → IsBefore x y

-- the order of quotients is transitive
pub before_trans : (x y z : Ratio) → pos 0 <ℤ x.e → pos 0 <ℤ y.e → pos 0 <ℤ z.e → IsBefore x y → IsBefore y z → IsBefore x z
before_trans x y z px py pz h k = go h k
  where
    swapped : (f b g : ℤ) → f *ℤ (b *ℤ g) ≡ g *ℤ (b *ℤ f)
    swapped f b g = identity (f ∷ b ∷ g ∷ []) (variable 0 ⊗ (variable 1 ⊗ variable 2)) (variable 2 ⊗ (variable 1 ⊗ variable 0)) refl

    both_less : (v w y' z' l r : ℤ) → v <ℤ w → y' <ℤ z' → l ≡ v → w ≡ y' → z' ≡ r → l <ℤ r
    both_less v w y' z' l r h k a b c = omega (arith, ints)

    first_less : (v w y' z' l r : ℤ) → v <ℤ w → y' ≡ z' → l ≡ v → w ≡ y' → z' ≡ r → l <ℤ r
    first_less v w y' z' l r h k a b c = omega (arith, ints)

    second_less : (v w y' z' l r : ℤ) → v ≡ w → y' <ℤ z' → l ≡ v → w ≡ y' → z' ≡ r → l <ℤ r
    second_less v w y' z' l r h k a b c = omega (arith, ints)

    go : IsBefore x y → IsBefore y z → IsBefore x z
    go (less h) (less k) =
        less (lt-of-mul_ℤ y.e _ _ py (both_less _ _ _ _ _ _ (mul-lt-mul_ℤ z.e _ _ pz h) (mul-lt-mul_ℤ x.e _ _ px k)
        (swapped y.e x.b z.e) (swapped z.e y.b x.e) (swapped x.e z.b y.e)))
    go (less h) (tie k n) =
        less (lt-of-mul_ℤ y.e _ _ py (first_less _ _ _ _ _ _ (mul-lt-mul_ℤ z.e _ _ pz h) (ap (λ (w : ℤ). x.e *ℤ w) k)
        (swapped y.e x.b z.e) (swapped z.e y.b x.e) (swapped x.e z.b y.e)))
    go (tie h m) (less k) =
        less (lt-of-mul_ℤ y.e _ _ py (second_less _ _ _ _ _ _ (ap (λ (w : ℤ). z.e *ℤ w) h) (mul-lt-mul_ℤ x.e _ _ px k)
        (swapped y.e x.b z.e) (swapped z.e y.b x.e) (swapped x.e z.b y.e)))
    go (tie h m) (tie k n) =
        tie (mul-cancel_ℤ y.e _ _ py (swapped y.e x.b z.e ∙ (ap (λ (w : ℤ). z.e *ℤ w) h ∙ (swapped z.e y.b x.e ∙ (ap (λ (w : ℤ). x.e *ℤ w) k ∙ swapped x.e z.b y.e))))) (omega arith)

-- no quotient comes before itself
pub before_irrefl : (x : Ratio) → ¬ IsBefore x x
before_irrefl x (less h) = omega (arith, ints, h)
before_irrefl x (tie h m) = omega arith

-- what the order of rows depends on, for a row and a column
abbrev pub ratio : LinearProgram → Tableau → ℕ → ℕ → Ratio
ratio p t c i = record { b = t.entry i (unknowns p); e = t.entry i c; n = t.basis i }

-- if the test of the order of quotients passes, the order holds
pub goes_before-true : (p : LinearProgram) (t : Tableau) (c i r : ℕ) → goes_before p t c i r ≡ true → IsBefore (ratio p t c i) (ratio p t c r)
goes_before-true p t c i r h = go (int_lt left right) (int_lt right left) (nat_lt (t.basis i) (t.basis r)) refl refl refl h
  where
    left : ℤ
    left = t.entry i (unknowns p) *ℤ t.entry r c

    right : ℤ
    right = t.entry r (unknowns p) *ℤ t.entry i c

    go : (u v w : Bool) → int_lt left right ≡ u → int_lt right left ≡ v → nat_lt (t.basis i) (t.basis r) ≡ w
        → (u || (not v && w)) ≡ true → IsBefore (ratio p t c i) (ratio p t c r)
    go true v w eu ev ew h = less (int_lt-true _ _ eu)
    go false true w eu ev ew h = cc
    go false false true eu ev ew h = tie (same _ _ (int_lt-false _ _ eu) (int_lt-false _ _ ev)) (ltb-true _ _ ew)
      where
        same : (a b : ℤ) → b ≤ℤ a → a ≤ℤ b → a ≡ b
        same a b m n = omega (arith, ints)
    go false false false eu ev ew h = cc

-- if the test of the order of quotients fails, the order doesn't hold
pub goes_before-false : (p : LinearProgram) (t : Tableau) (c i r : ℕ) → goes_before p t c i r ≡ false → ¬ IsBefore (ratio p t c i) (ratio p t c r)
goes_before-false p t c i r h before = go before
  where
    left : ℤ
    left = t.entry i (unknowns p) *ℤ t.entry r c

    right : ℤ
    right = t.entry r (unknowns p) *ℤ t.entry i c

    or_false : (u v w : Bool) → (u || (not v && w)) ≡ false → (u ≡ true → ⊥) × (v ≡ false → w ≡ true → ⊥)
    or_false true v w e = cc
    or_false false true w e = (λ f. cc, λ f g. cc)
    or_false false false true e = cc
    or_false false false false e = (λ f. cc, λ f g. cc)

    parts : (int_lt left right ≡ true → ⊥) × (int_lt right left ≡ false → nat_lt (t.basis i) (t.basis r) ≡ true → ⊥)
    parts = or_false (int_lt left right) (int_lt right left) (nat_lt (t.basis i) (t.basis r)) h

    go : IsBefore (ratio p t c i) (ratio p t c r) → ⊥
    go (less k) = parts.0 (lt-int_lt left right k)
    go (tie e k) = parts.1 (le-int_lt right left (at_most left right e)) (lt-ltb _ _ k)
      where
        at_most : (a b : ℤ) → a ≡ b → a ≤ℤ b
        at_most a b e = omega (arith, ints)

-- a row never goes before itself
pub self_not_before : (p : LinearProgram) (t : Tableau) (c r : ℕ) → goes_before p t c r r ≡ false
self_not_before p t c r = go (goes_before p t c r r) refl
  where
    go : (v : Bool) → goes_before p t c r r ≡ v → goes_before p t c r r ≡ false
    go true e = absurd (before_irrefl (ratio p t c r) (goes_before-true p t c r r e))
    go false e = e

-- if neither of two quotients is less, the basic columns decide which row goes before
pub columns-decide : (u v w : Bool) → u ≡ false → v ≡ false → w ≡ (u || (not v && w))
columns-decide true v w e f = cc
columns-decide false true w e f = cc
columns-decide false false w e f = refl

-- a candidate's entry is above 0
pub candidate-positive : (t : Tableau) (c i : ℕ) → is_candidate t c i ≡ true → pos 0 <ℤ t.entry i c
candidate-positive t c i h = int_lt-true _ _ h

-- of the first m rows none is a candidate, or there is one that no other goes before
best_of : (p : LinearProgram) (t : Tableau) (c m : ℕ)
    → ((i : ℕ) → i < m → is_candidate t c i ≡ false)
    ⊎ ((r : ℕ) × (r < m) × (is_candidate t c r ≡ true) × ((i : ℕ) → i < m → (is_candidate t c i && goes_before p t c i r) ≡ false))
best_of p t c zero = inl (λ i l. absurd (omega arith))
best_of p t c (suc m) = go (best_of p t c m) (is_candidate t c m) refl
  where
    -- a best row stays the best if the next candidate doesn't go before it
    not_before : (i r : ℕ) → (a b : Bool) → is_candidate t c i ≡ a → goes_before p t c i r ≡ b → (is_candidate t c i ≡ true → ¬ IsBefore (ratio p t c i) (ratio p t c r))
        → (a && b) ≡ false
    not_before i r true true ea eb n = absurd (n ea (goes_before-true p t c i r eb))
    not_before i r true false ea eb n = refl
    not_before i r false b ea eb n = refl

    after_and : (i r : ℕ) → (a b : Bool) → goes_before p t c i r ≡ b → (a && b) ≡ false → a ≡ true → ¬ IsBefore (ratio p t c i) (ratio p t c r)
    after_and i r true true eb e f = cc
    after_and i r true false eb e f = goes_before-false p t c i r eb
    after_and i r false b eb e f = cc

    go : ((i : ℕ) → i < m → is_candidate t c i ≡ false)
        ⊎ ((r : ℕ) × (r < m) × (is_candidate t c r ≡ true) × ((i : ℕ) → i < m → (is_candidate t c i && goes_before p t c i r) ≡ false))
        → (v : Bool) → is_candidate t c m ≡ v
        → ((i : ℕ) → i < suc m → is_candidate t c i ≡ false)
        ⊎ ((r : ℕ) × (r < suc m) × (is_candidate t c r ≡ true) × ((i : ℕ) → i < suc m → (is_candidate t c i && goes_before p t c i r) ≡ false))
    go (inl none) false e = inl (λ i l. all i (last_or_before m i l))
      where
        all : (i : ℕ) → (i ≡ m) ⊎ (i < m) → is_candidate t c i ≡ false
        all i (inl f) = ap (λ (k : ℕ). is_candidate t c k) f ∙ e
        all i (inr l) = none i l
    go (inl none) true e = inr (m, omega arith, e, λ i l. all i (last_or_before m i l))
      where
        all : (i : ℕ) → (i ≡ m) ⊎ (i < m) → (is_candidate t c i && goes_before p t c i m) ≡ false
        all i (inl f) = not_before i m (is_candidate t c i) (goes_before p t c i m) refl refl
            (λ _ b. before_irrefl (ratio p t c m) (subst (λ (k : ℕ). IsBefore (ratio p t c k) (ratio p t c m)) f b))
        all i (inr l) = no_and _ _ (none i l)
    go (inr found) false e = inr (found.0, omega (arith, found.1), found.2, λ i l. all i (last_or_before m i l))
      where
        all : (i : ℕ) → (i ≡ m) ⊎ (i < m) → (is_candidate t c i && goes_before p t c i found.0) ≡ false
        all i (inl f) = no_and _ _ (ap (λ (k : ℕ). is_candidate t c k) f ∙ e)
        all i (inr l) = found.3 i l
    go (inr found) true e = compare (goes_before p t c m found.0) refl
      where
        r : ℕ
        r = found.0

        compare : (w : Bool) → goes_before p t c m found.0 ≡ w
            → ((i : ℕ) → i < suc m → is_candidate t c i ≡ false)
            ⊎ ((r : ℕ) × (r < suc m) × (is_candidate t c r ≡ true) × ((i : ℕ) → i < suc m → (is_candidate t c i && goes_before p t c i r) ≡ false))
        compare false f = inr (found.0, omega (arith, found.1), found.2, λ i l. all i (last_or_before m i l))
          where
            all : (i : ℕ) → (i ≡ m) ⊎ (i < m) → (is_candidate t c i && goes_before p t c i found.0) ≡ false
            all i (inl g) = and_no _ _ (ap (λ (k : ℕ). goes_before p t c k found.0) g ∙ f)
            all i (inr l) = found.3 i l
        compare true f = inr (m, omega arith, e, λ i l. all i (last_or_before m i l))
          where
            all : (i : ℕ) → (i ≡ m) ⊎ (i < m) → (is_candidate t c i && goes_before p t c i m) ≡ false
            all i (inl g) = not_before i m (is_candidate t c i) (goes_before p t c i m) refl refl
                (λ _ b. before_irrefl (ratio p t c m) (subst (λ (k : ℕ). IsBefore (ratio p t c k) (ratio p t c m)) g b))
            all i (inr l) = not_before i m (is_candidate t c i) (goes_before p t c i m) refl refl
                (λ cand b. after_and i found.0 (is_candidate t c i) (goes_before p t c i found.0) refl (found.3 i l) cand
                (before_trans (ratio p t c i) (ratio p t c m) (ratio p t c found.0) (candidate-positive t c i cand) (candidate-positive t c m e)
                (candidate-positive t c found.0 found.2) b (goes_before-true p t c m found.0 f)))

-- if there is a candidate, there is a leaving row
pub leaving-there : (p : LinearProgram) (t : Tableau) (c i : ℕ) → i < p.rows → pos 0 <ℤ t.entry i c → (r : ℕ) × (leaving p t c ≡ Some r)
leaving-there p t c i l h = go (leaving p t c) refl (best_of p t c p.rows)
  where
    go : (o : Option ℕ) → leaving p t c ≡ o
        → ((i : ℕ) → i < p.rows → is_candidate t c i ≡ false)
        ⊎ ((r : ℕ) × (r < p.rows) × (is_candidate t c r ≡ true) × ((i : ℕ) → i < p.rows → (is_candidate t c i && goes_before p t c i r) ≡ false))
        → (r : ℕ) × (leaving p t c ≡ Some r)
    go (Some r) e w = (r, e)
    go None e (inl none) = let a = none i l in let b = lt-int_lt _ _ h in cc
    go None e (inr found) =
        let a = least-none p.rows _ e found.0 found.1 in
        let b = both-and _ _ found.2 (each-every p.rows (λ i. not (is_candidate t c i && goes_before p t c i found.0)) (λ i m. not-false _ (found.3 i m))) in
        cc

-- the leaving row and the entering column are a pivot
pub leaving-is_pivot : (p : LinearProgram) (t : Tableau) (c r : ℕ) → c < unknowns p → leaving p t c ≡ Some r → IsPivot p t r c
leaving-is_pivot p t c r l h =
    let found = least-found p.rows _ r h in
    let parts = and-both _ _ found.1 in
    record {
      row = found.0;
      column = l;
      positive = candidate-positive t c r parts.0;
      least = λ i m above. at_most i above (not-true _ (every-each p.rows (λ i. not (is_candidate t c i && goes_before p t c i r)) parts.1 i m));
    }
  where
    at_most : (i : ℕ) → pos 0 <ℤ t.entry i c → (is_candidate t c i && goes_before p t c i r) ≡ false
        → (t.entry r (unknowns p) *ℤ t.entry i c) ≤ℤ (t.entry i (unknowns p) *ℤ t.entry r c)
    at_most i above e = go (int_lt (t.entry i (unknowns p) *ℤ t.entry r c) (t.entry r (unknowns p) *ℤ t.entry i c)) refl
      where
        not_less : goes_before p t c i r ≡ false
        not_less = second_fails _ _ e (lt-int_lt _ _ above)

        go : (v : Bool) → int_lt (t.entry i (unknowns p) *ℤ t.entry r c) (t.entry r (unknowns p) *ℤ t.entry i c) ≡ v
            → (t.entry r (unknowns p) *ℤ t.entry i c) ≤ℤ (t.entry i (unknowns p) *ℤ t.entry r c)
        go true f = absurd (goes_before-false p t c i r not_less (less (int_lt-true _ _ f)))
        go false f = int_lt-false _ _ f
