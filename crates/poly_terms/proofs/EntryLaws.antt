-- A map from lists of variables to sums, as a polynomial.
use Rattle.std.proofs.Common.{◌≡◌, ℕ, ◌+◌, ◌≤◌, List, [], ◌∷◌, Bool, true, false, cond, refl, ap, ◌∙◌, subst, arith}
use Rattle.std.specs.Prelude.{ℤ, pos, ◌+ℤ◌, Option, Some, None, Vec}
use Rattle.std.specs.declared.alloc.Global.{Global}
use Rattle.std.specs.declared.cmp.Ordering.{Ordering}
use Rattle.std.specs.declared.cmp.Ordering.TheVariants.{Less, Equal, Greater}
use Rattle.std.specs.Ordering.{match_ordering, is_eq}
use Rattle.std.specs.BTreeMap.{insert_entry, is_at}
use Rattle.std.specs.Map.{lookup, keys_of}
use Rattle.std.specs.List.{AllByRecursion}
use Rattle.std.specs.List.Sorted.{IsStrictlySortedBy}
use Rattle.std.proofs.lemmas.Int.{ints}
use Rattle.model.specs.Polynomials as plain
use Rattle.poly_terms.specs.declared.wide.Wide.{Wide}
use Rattle.poly_terms.specs.Expanding.{order, added}
use Rattle.poly_terms.specs.Ordered.{IsBefore, IsAscending}
use Rattle.poly_terms.specs.Wide.{wide_value, key_order, sum_at, IsWithin, entry_of, entries_of, AreWithin}
use Rattle.poly_terms.proofs.OrderLaws.{before-all}

-- a list of variables before all keys isn't found
found-none : (k : Vec ℕ Global) (es : List (Vec ℕ Global × Wide)) → IsBefore k.items (entries_of es) → lookup (is_at (key_order k)) es ≡ None
found-none k [] h = refl
found-none k (e ∷ es) h = ap (λ (o : Ordering). cond (is_eq o) (Some e.1) (lookup (is_at (key_order k)) es)) h.0 ∙ found-none k es h.1

-- adding a product to the sum at its variables adds the monomial to the polynomial
pub entries-insert : (k : Vec ℕ Global) (w : Wide) (m : plain.Monomial) (es : List (Vec ℕ Global × Wide)) → IsAscending (entries_of es)
    → k.items ≡ m.vars → wide_value w ≡ sum_at (lookup (is_at (key_order k)) es) +ℤ m.coef
    → entries_of (insert_entry key_order es k w) ≡ added m (entries_of es)
entries-insert k w m [] a e f = λ i. record { coef = whole m.coef (wide_value w) f i; vars = e i } ∷ []
  where
    whole : (x y : ℤ) → y ≡ pos 0 +ℤ x → y ≡ x
    whole x y g = omega (arith, ints)
entries-insert k w m (n ∷ es) a e f =
    at (order k.items n.0.items) refl (entries-insert k w m es a.1 e)
    ∙ ap (λ (vs : List ℕ). match_ordering (order vs n.0.items) (m ∷ entries_of (n ∷ es)) (record { coef = wide_value n.1 +ℤ m.coef; vars = n.0.items } ∷ entries_of es) (entry_of n ∷ added m (entries_of es))) e
  where
    whole : (x y : ℤ) → y ≡ pos 0 +ℤ x → y ≡ x
    whole x y g = omega (arith, ints)

    sum_when : (o : Ordering) → order k.items n.0.items ≡ o → wide_value w ≡ sum_at (cond (is_eq o) (Some n.1) (lookup (is_at (key_order k)) es)) +ℤ m.coef
    sum_when o g = f ∙ ap (λ (p : Ordering). sum_at (cond (is_eq p) (Some n.1) (lookup (is_at (key_order k)) es)) +ℤ m.coef) g

    none_later : order k.items n.0.items ≡ Less → wide_value w ≡ m.coef
    none_later g =
        whole m.coef (wide_value w)
        (sum_when Less g ∙ ap (λ (o : Option Wide). sum_at o +ℤ m.coef) (found-none k es (before-all k.items n.0.items (entries_of es) g a.0)))

    at : (o : Ordering) → order k.items n.0.items ≡ o
        → (wide_value w ≡ sum_at (lookup (is_at (key_order k)) es) +ℤ m.coef → entries_of (insert_entry key_order es k w) ≡ added m (entries_of es))
        → entries_of (match_ordering o ((k, w) ∷ n ∷ es) ((n.0, w) ∷ es) (n ∷ insert_entry key_order es k w))
        ≡ match_ordering o (m ∷ entries_of (n ∷ es)) (record { coef = wide_value n.1 +ℤ m.coef; vars = n.0.items } ∷ entries_of es) (entry_of n ∷ added m (entries_of es))
    at Less g ih = λ i. record { coef = none_later g i; vars = e i } ∷ entries_of (n ∷ es)
    at Equal g ih = λ i. record { coef = sum_when Equal g i; vars = n.0.items } ∷ entries_of es
    at Greater g ih = ap (λ (p : plain.Polynomial). entry_of n ∷ p) (ih (sum_when Greater g))

-- sums within a number are within a greater one
pub within-more : (j l : ℕ) (es : List (Vec ℕ Global × Wide)) → j ≤ l → AreWithin j es → AreWithin l es
within-more j l [] h a = a
within-more j l (e ∷ es) h a = (record { high = omega (arith, a.0.high); low = omega (arith, a.0.low) }, within-more j l es h a.1)

-- the sum that is found is within the bound
pub within-found : (j : ℕ) (test : Vec ℕ Global → Bool) (w : Wide) (es : List (Vec ℕ Global × Wide)) → AreWithin j es → lookup test es ≡ Some w → IsWithin j w
within-found j test w [] a f = cc
within-found j test w (e ∷ es) a f = go (test e.0) f (within-found j test w es a.1)
  where
    go : (b : Bool) → cond b (Some e.1) (lookup test es) ≡ Some w → (lookup test es ≡ Some w → IsWithin j w) → IsWithin j w
    go true g ih = subst (IsWithin j) (let h : e.1 ≡ w = cc in h) a.0
    go false g ih = ih g

-- after a product is added, the sums are within the next bound
pub within-insert : (j : ℕ) (k : Vec ℕ Global) (w : Wide) (es : List (Vec ℕ Global × Wide)) → IsWithin (j + 1) w → AreWithin j es
    → AreWithin (j + 1) (insert_entry key_order es k w)
within-insert j k w [] h a = (h, tt)
within-insert j k w (n ∷ es) h a = go (order k.items n.0.items) (within-insert j k w es h a.1)
  where
    go : (o : Ordering) → AreWithin (j + 1) (insert_entry key_order es k w)
        → AreWithin (j + 1) (match_ordering o ((k, w) ∷ n ∷ es) ((n.0, w) ∷ es) (n ∷ insert_entry key_order es k w))
    go Less ih = (h, within-more j (j + 1) (n ∷ es) (omega arith) a)
    go Equal ih = (h, within-more j (j + 1) es (omega arith) a.1)
    go Greater ih = ((within-more j (j + 1) (n ∷ []) (omega arith) (a.0, tt)).0, ih)

-- a key that is before all keys of a map is before its monomials
before-entries : (k : Vec ℕ Global) (es : List (Vec ℕ Global × Wide)) → AllByRecursion (λ l. key_order k l ≡ Less) (keys_of es) → IsBefore k.items (entries_of es)
before-entries k [] a = tt
before-entries k (e ∷ es) a = (a.0, before-entries k es a.1)

-- the keys of a map ascend, and so do the monomials
pub ascending-entries : (es : List (Vec ℕ Global × Wide)) → IsStrictlySortedBy key_order (keys_of es) → IsAscending (entries_of es)
unfolding IsStrictlySortedBy
ascending-entries [] a = tt
ascending-entries (e ∷ es) a = (before-entries e.0 es a.0, ascending-entries es a.1)
