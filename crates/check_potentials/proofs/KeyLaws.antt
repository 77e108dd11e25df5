-- Keys that ascend, and elements that are found by their key.
use Rattle.std.proofs.Common.{◌≡◌, ℕ, ◌+◌, ◌<◌, ◌≤◌, Bool, true, false, List, [], ◌∷◌, map, drop, get_or, length}
use Rattle.std.proofs.Common.{Option, Some, None, refl, ap, sym, ◌∙◌, arith}
use Rattle.std.specs.Prelude.{if◌then◌else◌, ◌&&◌, ◌==◌, nat_lt}
use Rattle.std.proofs.lemmas.Bool.{lt-ltb, ltb-true, eqb-true}
use Rattle.std.proofs.lemmas.List.{drop_more, drop_all}
use Rattle.potential_nodes.specs.Lookup.{lookup, is_below_all, ascends}
use Rattle.check_potentials.specs.Keys.{is_above, ascends_behind}

-- both of two tests say yes
both-true : (v w : Bool) → v ≡ true → w ≡ true → (v && w) ≡ true
both-true v w p q = ap (λ (t : Bool). t && w) p ∙ q

-- a first test that says yes leaves the second
second-of : (v w : Bool) → v ≡ true → (v && w) ≡ true → w ≡ true
second-of v w p q = sym (ap (λ (t : Bool). t && w) p) ∙ q

false-true : false ≡ true → ⊥
false-true k = cc

-- two different numbers aren't equal by the test
pub neq-eqb : (a b : ℕ) → (a ≡ b → ⊥) → (a == b) ≡ false
neq-eqb a b h = go (a == b) refl
  where
    go : (v : Bool) → (a == b) ≡ v → (a == b) ≡ false
    go true e = absurd (h (eqb-true a b e))
    go false e = e

-- orders follow one another
less-trans : (a b c : ℕ) → nat_lt a b ≡ true → nat_lt b c ≡ true → nat_lt a c ≡ true
less-trans a b c p q = lt-ltb a c (omega (arith, ltb-true a b p, ltb-true b c q))

-- a number below another one is below all that this one is below
below-all : (a b : ℕ) (ks : List ℕ) → nat_lt a b ≡ true → is_below_all b ks ≡ true → is_below_all a ks ≡ true
below-all a b [] h all = refl
below-all a b (k ∷ ks) h all = go (nat_lt b k) refl (below-all a b ks h)
  where
    go : (v : Bool) → nat_lt b k ≡ v → (is_below_all b ks ≡ true → is_below_all a ks ≡ true)
        → is_below_all a (k ∷ ks) ≡ true
    go true e rest =
        both-true (nat_lt a k) (is_below_all a ks) (less-trans a b k h e)
        (rest (second-of (nat_lt b k) (is_below_all b ks) e all))
    go false e rest = absurd (false-true (sym (ap (λ (v : Bool). v && is_below_all b ks) e) ∙ all))

-- the first two keys decide, and those after the first
ascends-adjacent : (a b : ℕ) (ks : List ℕ) → ascends (a ∷ b ∷ ks) ≡ (nat_lt a b && ascends (b ∷ ks))
ascends-adjacent a b ks = go (nat_lt a b) (is_below_all b ks) refl refl
  where
    left_true : (s x y : Bool) → s ≡ true → ((true && s) && (true && x)) ≡ (true && (true && x))
    left_true s x y e = ap (λ (t : Bool). (true && t) && (true && x)) e

    left_false : (s x : Bool) → ((true && s) && (false && x)) ≡ (true && (false && x))
    left_false true x = refl
    left_false false x = refl

    go : (v w : Bool) → nat_lt a b ≡ v → is_below_all b ks ≡ w
        → ((nat_lt a b && is_below_all a ks) && (is_below_all b ks && ascends ks))
        ≡ (nat_lt a b && (is_below_all b ks && ascends ks))
    go false w e f =
        ap (λ (t : Bool). (t && is_below_all a ks) && (is_below_all b ks && ascends ks)) e
        ∙ sym (ap (λ (t : Bool). t && (is_below_all b ks && ascends ks)) e)
    go true false e f =
        ap (λ (t : Bool). (t && is_below_all a ks) && (is_below_all b ks && ascends ks)) e
        ∙ ap (λ (t : Bool). (true && is_below_all a ks) && (t && ascends ks)) f
        ∙ left_false (is_below_all a ks) (ascends ks)
        ∙ sym (ap (λ (t : Bool). true && (t && ascends ks)) f)
        ∙ sym (ap (λ (t : Bool). t && (is_below_all b ks && ascends ks)) e)
    go true true e f =
        ap (λ (t : Bool). (t && is_below_all a ks) && (is_below_all b ks && ascends ks)) e
        ∙ ap (λ (t : Bool). (true && is_below_all a ks) && (t && ascends ks)) f
        ∙ left_true (is_below_all a ks) (ascends ks) true (below-all a b ks e f)
        ∙ sym (ap (λ (t : Bool). true && (t && ascends ks)) f)
        ∙ sym (ap (λ (t : Bool). t && (is_below_all b ks && ascends ks)) e)

-- one key more
behind-one : (last : Option ℕ) (k : ℕ) (ks : List ℕ)
    → ascends_behind last (k ∷ ks) ≡ (is_above last k && ascends_behind (Some k) ks)
behind-one None k ks = refl
behind-one (Some l) k ks = ascends-adjacent l k ks

behind-none : (last : Option ℕ) → ascends_behind last [] ≡ true
behind-none None = refl
behind-none (Some l) = refl

module _ {A B : Type 0} (key : B → ℕ) (view : A → B) (xs : List A) (i : ℕ) where
  -- a loop that asks whether keys ascend: one that is above the last is passed, one that isn't is found, or all ascend
  keys-more : (last : Option ℕ) (x : A) (v : Bool) → i < length xs → x ≡ get_or xs i x → v ≡ is_above last
      (key (view x))
      → ascends_behind last (map key (map view (drop i xs)))
      ≡ (v && ascends_behind (Some (key (view x))) (map key (map view (drop (i + 1) xs))))
  keys-more last x v low e h =
      ap (λ (ys : List A). ascends_behind last (map key (map view ys))) (drop_more xs i x low)
      ∙ ap (λ (y : A). ascends_behind last (key (view y) ∷ map key (map view (drop (i + 1) xs)))) (sym e)
      ∙ behind-one last (key (view x)) (map key (map view (drop (i + 1) xs)))
      ∙ ap (λ (t : Bool). t && ascends_behind (Some (key (view x))) (map key (map view (drop (i + 1) xs)))) (sym h)

  pub keys_passed : (last : Option ℕ) (x : A) → i < length xs → x ≡ get_or xs i x → true ≡ is_above last (key (view x))
      → ascends_behind last (map key (map view (drop i xs))) ≡ ascends (map key (map view xs))
      → ascends_behind (Some (key (view x))) (map key (map view (drop (i + 1) xs))) ≡ ascends (map key (map view xs))
  keys_passed last x low e h kept = sym (keys-more last x true low e h) ∙ kept

  pub keys_failed : (last : Option ℕ) (x : A) → i < length xs → x ≡ get_or xs i x → false ≡ is_above last (key (view x))
      → ascends_behind last (map key (map view (drop i xs))) ≡ ascends (map key (map view xs))
      → false ≡ ascends (map key (map view xs))
  keys_failed last x low e h kept = sym (keys-more last x false low e h) ∙ kept

  pub keys_none : (last : Option ℕ) → length xs ≤ i
      → ascends_behind last (map key (map view (drop i xs))) ≡ ascends (map key (map view xs))
      → true ≡ ascends (map key (map view xs))
  keys_none last low kept =
      sym (behind-none last)
      ∙ (sym (ap (λ (ys : List A). ascends_behind last (map key (map view ys))) (drop_all i xs low)) ∙ kept)

  -- a loop for the first element with a key: it is found, passed, or there is none
  lookup-more : (n : ℕ) (x : A) (v : Bool) → i < length xs → x ≡ get_or xs i x → (key (view x) == n) ≡ v
      → lookup key n (map view (drop i xs)) ≡ (if v then Some (view x) else lookup key n (map view (drop (i + 1) xs)))
  lookup-more n x v low e h =
      ap (λ (ys : List A). lookup key n (map view ys)) (drop_more xs i x low)
      ∙ ap (λ (y : A). lookup key n (view y ∷ map view (drop (i + 1) xs))) (sym e)
      ∙ ap (λ (t : Bool). if t then Some (view x) else lookup key n (map view (drop (i + 1) xs))) h

  pub lookup_found : (n : ℕ) (x : A) → i < length xs → x ≡ get_or xs i x → (key (view x) == n) ≡ true
      → lookup key n (map view (drop i xs)) ≡ lookup key n (map view xs) → Some (view x) ≡ lookup key n (map view xs)
  lookup_found n x low e h kept = sym (lookup-more n x true low e h) ∙ kept

  pub lookup_passed : (n : ℕ) (x : A) → i < length xs → x ≡ get_or xs i x → (key (view x) == n) ≡ false
      → lookup key n (map view (drop i xs)) ≡ lookup key n (map view xs)
      → lookup key n (map view (drop (i + 1) xs)) ≡ lookup key n (map view xs)
  lookup_passed n x low e h kept = sym (lookup-more n x false low e h) ∙ kept

  pub lookup_none : (n : ℕ) → length xs ≤ i → lookup key n (map view (drop i xs)) ≡ lookup key n (map view xs)
      → None ≡ lookup key n (map view xs)
  lookup_none n low kept = sym (ap (λ (ys : List A). lookup key n (map view ys)) (drop_all i xs low)) ∙ kept
