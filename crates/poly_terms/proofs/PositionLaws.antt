-- The position of a variable among ascending ones, and of a list of variables among those of a polynomial.
use Rattle.std.proofs.Common.{◌≡◌, ◌≢◌, ℕ, zero, suc, ◌<◌, ◌≤◌, List, [], ◌∷◌, length, get_or, set, Bool, true, false}
use Rattle.std.proofs.Common.{refl, ap, sym, ◌∙◌, subst, arith, nat_lt, if◌then◌else◌}
use Rattle.std.specs.Prelude.{insert, ℤ, ◌+ℤ◌}
use Rattle.std.specs.declared.cmp.Ordering.{Ordering}
use Rattle.std.specs.declared.cmp.Ordering.TheVariants.{Less, Equal, Greater}
use Rattle.std.specs.Ordering.{match_ordering, is_lt}
use Rattle.std.proofs.lemmas.Bool.Decides.{nat_tests}
use Rattle.std.proofs.lemmas.Cmp.{nat_list_cmp_total, tied_itself, tied_back}
use Rattle.std.proofs.lemmas.Map.Lookups.{exact_bytes}
use Rattle.std.proofs.lemmas.List.{length-map, get_or-map}
use Rattle.model.specs.Polynomials.{Monomial, Polynomial}
use Rattle.poly_terms.specs.declared.poly.Monomial as code
use Rattle.poly_terms.specs.Views.{monomial_of, monomials_of}
use Rattle.poly_terms.specs.Expanding.{order, added, inserted}
use Rattle.poly_terms.specs.Ordered.{IsBefore, IsAscending}
use Rattle.poly_terms.specs.Positions.{position_in}
use Rattle.poly_terms.proofs.OrderLaws.{order-flip, order-back}

-- a variable is inserted after those that are smaller
pub inserted-at : (vs : List ℕ) (i v : ℕ) → i ≤ length vs → ((k : ℕ) → k < i → get_or vs k 0 < v) → (i < length vs → v ≤ get_or vs i 0)
    → insert vs i v ≡ inserted v vs
inserted-at [] zero v l h k = refl
inserted-at [] (suc i) v l h k = absurd (omega arith)
inserted-at (w ∷ ws) zero v l h k = go (nat_lt w v) refl
  where
    go : (b : Bool) → nat_lt w v ≡ b → v ∷ w ∷ ws ≡ (if b then w ∷ inserted v ws else v ∷ w ∷ ws)
    go true e = absurd (clash (k (omega arith)) e)
      where
        clash : v ≤ w → nat_lt w v ≡ true → ⊥
        clash m n = grind (arith, nat_tests)
    go false e = refl
inserted-at (w ∷ ws) (suc i) v l h k =
    go (nat_lt w v) refl (inserted-at ws i v (omega arith) (λ j m. h (suc j) (omega arith)) (λ m. k (omega arith)))
  where
    go : (b : Bool) → nat_lt w v ≡ b → insert ws i v ≡ inserted v ws → w ∷ insert ws i v ≡ (if b then w ∷ inserted v ws else v ∷ w ∷ ws)
    go true e ih = ap (λ (us : List ℕ). w ∷ us) ih
    go false e ih = absurd (clash (h 0 (omega arith)) e)
      where
        clash : w < v → nat_lt w v ≡ false → ⊥
        clash m n = grind (arith, nat_tests)

-- if the variables of the monomial at i come before these, the position is after i
pub position-behind : (vs : List ℕ) (ms : Polynomial) (i : ℕ) (d : Monomial) → IsAscending ms → i < length ms → order (get_or ms i d).vars vs ≡ Less
    → i < position_in vs ms
position-behind vs [] i d a l e = absurd (omega arith)
position-behind vs (m ∷ ms) zero d a l e = go (order m.vars vs) e
  where
    go : (o : Ordering) → o ≡ Less → 0 < (if is_lt o then suc (position_in vs ms) else 0)
    go Less f = omega arith
    go Equal f = cc
    go Greater f = cc
position-behind vs (m ∷ ms) (suc i) d a l e = go (order m.vars vs) (first ms i a.0 (omega arith) e) (position-behind vs ms i d a.1 (omega arith) e)
  where
    first : (ns : Polynomial) (j : ℕ) → IsBefore m.vars ns → j < length ns → order (get_or ns j d).vars vs ≡ Less → order m.vars vs ≡ Less
    first [] j b k f = absurd (omega arith)
    first (n ∷ ns) zero b k f = nat_list_cmp_total.trans m.vars n.vars vs b.0 f
    first (n ∷ ns) (suc j) b k f = first ns j b.1 (omega arith) f

    go : (o : Ordering) → o ≡ Less → i < position_in vs ms → suc i < (if is_lt o then suc (position_in vs ms) else 0)
    go Less f ih = omega arith
    go Equal f ih = cc
    go Greater f ih = cc

-- if the variables of the monomial at i don't come before these, the position is at most i
pub position-before : (vs : List ℕ) (ms : Polynomial) (i : ℕ) (d : Monomial) → i < length ms → is_lt (order (get_or ms i d).vars vs) ≡ false
    → position_in vs ms ≤ i
position-before vs [] i d l e = omega arith
position-before vs (m ∷ ms) zero d l e = go (is_lt (order m.vars vs)) e
  where
    go : (b : Bool) → b ≡ false → (if b then suc (position_in vs ms) else 0) ≤ 0
    go true f = cc
    go false f = omega arith
position-before vs (m ∷ ms) (suc i) d l e = go (is_lt (order m.vars vs)) (position-before vs ms i d (omega arith) e)
  where
    go : (b : Bool) → position_in vs ms ≤ i → (if b then suc (position_in vs ms) else 0) ≤ suc i
    go true ih = omega arith
    go false ih = omega arith

-- the position is no further than the end
pub position-within : (vs : List ℕ) (ms : Polynomial) → position_in vs ms ≤ length ms
position-within vs [] = omega arith
position-within vs (m ∷ ms) = go (is_lt (order m.vars vs)) (position-within vs ms)
  where
    go : (b : Bool) → position_in vs ms ≤ length ms → (if b then suc (position_in vs ms) else 0) ≤ suc (length ms)
    go true ih = omega arith
    go false ih = omega arith

-- if the first monomial's variables don't come before these, the position is the first
position-first : (vs : List ℕ) (t : Monomial) (ts : Polynomial) → is_lt (order t.vars vs) ≡ false → position_in vs (t ∷ ts) ≡ 0
position-first vs t ts e = ap (λ (b : Bool). if b then suc (position_in vs ts) else 0) e

position-later : (vs : List ℕ) (t : Monomial) (ts : Polynomial) → is_lt (order t.vars vs) ≡ true → position_in vs (t ∷ ts) ≡ suc (position_in vs ts)
position-later vs t ts e = ap (λ (b : Bool). if b then suc (position_in vs ts) else 0) e

-- if the monomial at the position has other variables, the monomial is inserted there
pub added-inserts : (m d : Monomial) (ts : Polynomial) → (position_in m.vars ts < length ts → (get_or ts (position_in m.vars ts) d).vars ≢ m.vars)
    → added m ts ≡ insert ts (position_in m.vars ts) m
added-inserts m d [] h = refl
added-inserts m d (t ∷ ts) h = go (order m.vars t.vars) refl (added-inserts m d ts)
  where
    other : (i : ℕ) → position_in m.vars (t ∷ ts) ≡ i → i < length (t ∷ ts) → (get_or (t ∷ ts) i d).vars ≢ m.vars
    other i e = subst (λ (j : ℕ). j < length (t ∷ ts) → (get_or (t ∷ ts) j d).vars ≢ m.vars) e h

    go : (o : Ordering) → order m.vars t.vars ≡ o
        → ((position_in m.vars ts < length ts → (get_or ts (position_in m.vars ts) d).vars ≢ m.vars) → added m ts ≡ insert ts (position_in m.vars ts) m)
        → match_ordering o (m ∷ t ∷ ts) (record { coef = t.coef +ℤ m.coef; vars = t.vars } ∷ ts) (t ∷ added m ts)
        ≡ insert (t ∷ ts) (position_in m.vars (t ∷ ts)) m
    go Less e ih = ap (λ (i : ℕ). insert (t ∷ ts) i m) (sym (position-first m.vars t ts (ap is_lt (order-back m.vars t.vars e))))
    go Equal e ih =
        absurd (other 0 (position-first m.vars t ts (ap is_lt (tied_back nat_list_cmp_total m.vars t.vars e))) (omega arith) (sym (exact_bytes m.vars t.vars e)))
    go Greater e ih =
        let p = position-later m.vars t ts (ap is_lt (order-flip m.vars t.vars e)) in
        ap (λ (us : Polynomial). t ∷ us) (ih (λ l. other (suc (position_in m.vars ts)) p (omega arith)))
        ∙ ap (λ (i : ℕ). insert (t ∷ ts) i m) (sym p)

-- the monomial n with the coefficient of m added
abbrev pub raised : Monomial → Monomial → Monomial
raised n m = record { coef = n.coef +ℤ m.coef; vars = n.vars }

-- if the monomial at the position has the same variables, its coefficient is increased
pub added-raises : (m d : Monomial) (ts : Polynomial) → position_in m.vars ts < length ts → (get_or ts (position_in m.vars ts) d).vars ≡ m.vars
    → added m ts ≡ set ts (position_in m.vars ts) (raised (get_or ts (position_in m.vars ts) d) m)
added-raises m d [] l h = absurd (omega arith)
added-raises m d (t ∷ ts) l h = go (order m.vars t.vars) refl (added-raises m d ts)
  where
    same : (i : ℕ) → position_in m.vars (t ∷ ts) ≡ i → (get_or (t ∷ ts) i d).vars ≡ m.vars
    same i e = subst (λ (j : ℕ). (get_or (t ∷ ts) j d).vars ≡ m.vars) e h

    within : (i : ℕ) → position_in m.vars (t ∷ ts) ≡ suc i → i < length ts
    within i e = omega (arith, e, l)

    go : (o : Ordering) → order m.vars t.vars ≡ o
        → (position_in m.vars ts < length ts → (get_or ts (position_in m.vars ts) d).vars ≡ m.vars → added m ts ≡ set ts (position_in m.vars ts) (raised (get_or ts (position_in m.vars ts) d) m))
        → match_ordering o (m ∷ t ∷ ts) (raised t m ∷ ts) (t ∷ added m ts)
        ≡ set (t ∷ ts) (position_in m.vars (t ∷ ts)) (raised (get_or (t ∷ ts) (position_in m.vars (t ∷ ts)) d) m)
    go Less e ih =
        let p = position-first m.vars t ts (ap is_lt (order-back m.vars t.vars e)) in
        absurd (clash (subst (λ (vs : List ℕ). order m.vars vs ≡ Less) (same 0 p) e))
      where
        clash : order m.vars m.vars ≡ Less → ⊥
        clash f = let g = tied_itself nat_list_cmp_total m.vars in cc
    go Equal e ih =
        ap (λ (i : ℕ). set (t ∷ ts) i (raised (get_or (t ∷ ts) i d) m)) (sym (position-first m.vars t ts (ap is_lt (tied_back nat_list_cmp_total m.vars t.vars e))))
    go Greater e ih =
        let p = position-later m.vars t ts (ap is_lt (order-flip m.vars t.vars e)) in
        ap (λ (us : Polynomial). t ∷ us) (ih (within (position_in m.vars ts) p) (same (suc (position_in m.vars ts)) p))
        ∙ ap (λ (i : ℕ). set (t ∷ ts) i (raised (get_or (t ∷ ts) i d) m)) (sym p)

-- the plain monomial at position i is that of the code's monomial at position i
pub at-monomial : (ms : List code.Monomial) (i : ℕ) (m : code.Monomial) (d : Monomial) → i < length ms → m ≡ get_or ms i m
    → get_or (monomials_of ms) i d ≡ monomial_of m
at-monomial ms i m d l e = get_or-map monomial_of ms i m d l ∙ ap monomial_of (sym e)

-- the position of variables is after each monomial of the code whose variables come before them
pub behind-at : (vs : List ℕ) (ms : List code.Monomial) (i : ℕ) (m : code.Monomial) → IsAscending (monomials_of ms) → i < length ms → m ≡ get_or ms i m
    → is_lt (order m.vars.items vs) ≡ true → i < position_in vs (monomials_of ms)
behind-at vs ms i m a l e f =
    position-behind vs (monomials_of ms) i (monomial_of m) a (omega (arith, length-map ms monomial_of))
    (ap (λ (n : Monomial). order n.vars vs) (at-monomial ms i m (monomial_of m) l e) ∙ less (order m.vars.items vs) f)
  where
    less : (o : Ordering) → is_lt o ≡ true → o ≡ Less
    less Less g = refl
    less Equal g = cc
    less Greater g = cc

-- the position of variables isn't after a monomial of the code whose variables don't come before them
pub before-at : (vs : List ℕ) (ms : List code.Monomial) (i : ℕ) (m : code.Monomial) → i < length ms → m ≡ get_or ms i m
    → is_lt (order m.vars.items vs) ≡ false → position_in vs (monomials_of ms) ≤ i
before-at vs ms i m l e f =
    position-before vs (monomials_of ms) i (monomial_of m) (omega (arith, length-map ms monomial_of))
    (ap (λ (n : Monomial). is_lt (order n.vars vs)) (at-monomial ms i m (monomial_of m) l e) ∙ f)

-- inserting a monomial into the code's list
pub inserts-at : (m : code.Monomial) (ms : List code.Monomial) (i : ℕ) → i ≡ position_in m.vars.items (monomials_of ms)
    → (i < length ms → (d : code.Monomial) → (get_or ms i d).vars.items ≢ m.vars.items)
    → monomials_of (insert ms i m) ≡ added (monomial_of m) (monomials_of ms)
inserts-at m ms i e h = map_insert ms i ∙ (ap (λ (j : ℕ). insert (monomials_of ms) j (monomial_of m)) e ∙ sym (added-inserts (monomial_of m) (monomial_of m) (monomials_of ms) other))
  where
    map_insert : (ms : List code.Monomial) (i : ℕ) → monomials_of (insert ms i m) ≡ insert (monomials_of ms) i (monomial_of m)
    map_insert [] zero = refl
    map_insert [] (suc i) = refl
    map_insert (n ∷ ms) zero = refl
    map_insert (n ∷ ms) (suc i) = ap (λ (ns : Polynomial). monomial_of n ∷ ns) (map_insert ms i)

    same : (j : ℕ) → i ≡ j → (j < length ms → (d : code.Monomial) → (get_or ms j d).vars.items ≢ m.vars.items)
    same j f = subst (λ (k : ℕ). k < length ms → (d : code.Monomial) → (get_or ms k d).vars.items ≢ m.vars.items) f h

    other : position_in m.vars.items (monomials_of ms) < length (monomials_of ms)
        → (get_or (monomials_of ms) (position_in m.vars.items (monomials_of ms)) (monomial_of m)).vars ≢ m.vars.items
    other l f =
        let p = position_in m.vars.items (monomials_of ms) in
        let k : p < length ms = omega (arith, l, length-map ms monomial_of) in
        same p e k m (sym (ap (λ (n : Monomial). n.vars) (get_or-map monomial_of ms p m (monomial_of m) k)) ∙ f)

-- increasing a coefficient in the code's list
pub raises-at : (m : code.Monomial) (ms ns : List code.Monomial) (i : ℕ) (z : ℤ) → i ≡ position_in m.vars.items (monomials_of ms) → i < length ms
    → ((d : code.Monomial) → (get_or ms i d).vars.items ≡ m.vars.items)
    → z ≡ (get_or ms i m).coef +ℤ m.coef
    → ((d : Monomial) → monomials_of ns ≡ set (monomials_of ms) i (record { coef = z; vars = (get_or (monomials_of ms) i d).vars }))
    → monomials_of ns ≡ added (monomial_of m) (monomials_of ms)
raises-at m ms ns i z e l h f g =
    g (monomial_of m)
    ∙ (ap (λ (n : Monomial). set (monomials_of ms) i n) whole
    ∙ (ap (λ (j : ℕ). set (monomials_of ms) j (raised (get_or (monomials_of ms) j (monomial_of m)) (monomial_of m))) e
    ∙ sym (added-raises (monomial_of m) (monomial_of m) (monomials_of ms) (omega (arith, e, l, length-map ms monomial_of))
    (subst (λ (j : ℕ). (get_or (monomials_of ms) j (monomial_of m)).vars ≡ m.vars.items) e (ap (λ (n : Monomial). n.vars) there ∙ h m)))))
  where
    there : get_or (monomials_of ms) i (monomial_of m) ≡ monomial_of (get_or ms i m)
    there = get_or-map monomial_of ms i m (monomial_of m) l

    whole : ◌≡◌ {A = Monomial} (record { coef = z; vars = (get_or (monomials_of ms) i (monomial_of m)).vars }) (raised (get_or (monomials_of ms) i (monomial_of m)) (monomial_of m))
    whole = λ j. record { coef = (f ∙ ap (λ (n : Monomial). n.coef +ℤ m.coef) (sym there)) j; vars = (get_or (monomials_of ms) i (monomial_of m)).vars }
