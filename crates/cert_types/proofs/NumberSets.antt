-- Sets of numbers to which one number after another is added.
use Rattle.std.proofs.Common.{◌≡◌, ℕ, ◌+◌, ◌<◌, ◌==◌, ◌||◌, arith, Bool, true, false, cond, List, [], ◌∷◌, ◌++◌, take}
use Rattle.std.proofs.Common.{get_or, length, None, refl, sym, ◌∙◌, ap, subst}
use Rattle.std.proofs.lemmas.List.{take_more}
use Rattle.std.specs.BTreeSet.{BTreeSet, contains}
use Rattle.std.specs.BTreeMap.{is_at}
use Rattle.std.specs.Cmp.{unsigned_tied}
use Rattle.std.specs.Ordering.{nat_cmp}
use Rattle.std.proofs.lemmas.Bool.Decides.{nat_tests}
use Rattle.poly_terms.specs.model.Programs.{Program}
use Rattle.poly_terms.specs.model.Entries.{is_in, is_left_by}
use Rattle.cert_types.specs.NumberSets.{HasJust}
pub use Rattle.poly_terms.proofs.model.Cases.{same_tests as bool_same}

-- a number is in a list with one more where it is in the list or is that one
in-more : (q n : ℕ) (ns : List ℕ) → is_in q (ns ++ n ∷ []) ≡ cond (q == n) true (is_in q ns)
in-more q n [] = go (q == n)
  where
    go : (v : Bool) → (v || false) ≡ cond v true false
    go true = refl
    go false = refl
in-more q n (m ∷ ns) = ap (λ (v : Bool). (q == m) || v) (in-more q n ns) ∙ go (q == m) (q == n)
  where
    go : (v w : Bool) → (v || cond w true (is_in q ns)) ≡ cond w true (v || is_in q ns)
    go true true = refl
    go true false = refl
    go false true = refl
    go false false = refl

-- the test whether two numbers are equal doesn't depend on their order
eqb-flip : (a b : ℕ) → (a == b) ≡ (b == a)
eqb-flip a b = bool_same (a == b) (b == a) (flip a b) (flip b a)
  where
    flip : (m n : ℕ) → (m == n) ≡ true → (n == m) ≡ true
    flip m n h = go (n == m) refl
      where
        go : (v : Bool) → (n == m) ≡ v → v ≡ true
        go true e = refl
        go false e = absurd (grind (arith, nat_tests))

-- the test of a key in the set is the test whether it is the number
same-key : (n q : ℕ) → is_at (nat_cmp n) q ≡ (q == n)
same-key n q = unsigned_tied n q ∙ eqb-flip n q

-- a set with one more number contains exactly those of the list with that number
pub set_more : (old new : BTreeSet ℕ) (ns : List ℕ) (n : ℕ) → HasJust old ns
    → ((q : ℕ) → contains nat_cmp new q ≡ cond (is_at (nat_cmp n) q) true (contains nat_cmp old q))
    → HasJust new (ns ++ n ∷ [])
set_more old new ns n h u q =
    u q ∙ (ap (λ (v : Bool). cond v true (contains nat_cmp old q)) (same-key n q)
    ∙ (ap (λ (v : Bool). cond (q == n) true v) (h q) ∙ sym (in-more q n ns)))

-- a set of the first numbers of a list with the next one contains one more of them
pub number_more : (old new : BTreeSet ℕ) (ns : List ℕ) (i : ℕ) → i < length ns → HasJust old (take i ns)
    → ((q : ℕ) → contains nat_cmp new q ≡ cond (is_at (nat_cmp (get_or ns i 0)) q) true (contains nat_cmp old q))
    → HasJust new (take (i + 1) ns)
number_more old new ns i l h u =
    subst (HasJust new) (sym (take_more ns i 0 l)) (set_more old new (take i ns) (get_or ns i 0) h u)

-- no rule leaves an absent symbol
pub left_by_none : (p : Program) (rules : List ℕ) → is_left_by p rules None ≡ false
left_by_none p [] = refl
left_by_none p (t ∷ rules) = left_by_none p rules
