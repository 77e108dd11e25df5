-- A set whose keys are names, and the names that it holds.
use Rattle.std.proofs.Common.{◌≡◌, ℕ, Bool, true, false, cond, List, [], ◌∷◌, ◌++◌, length, refl, ap, sym, ◌∙◌, Option}
use Rattle.std.proofs.Common.{Some, None, map, nat_lt, ◌||◌, not, suc, ◌+◌, arith, subst, append_assoc}
use Rattle.std.specs.Prelude.{IsTrue, IsFalse, MatchOption, is_some}
use Rattle.std.specs.List.{list_any, position, position_or_len}
use Rattle.indexmap.specs.IndexSet.{insert_key}
use Rattle.model.specs.Programs.{Name}
use Rattle.text_core.specs.Names.{is_same, is_among, position_of, AreDistinct}
use Rattle.text_core.proofs.NameLaws.{same_equal, equal_same}

module _ {X : Type 0} (view : X → Name) where
  module _ (n : Name) (test : X → Bool) (same : (k : X) → test k ≡ is_same n (view k)) where
    -- the set has the key exactly if the name is among the names
    pub key_among : (ks : List X) → list_any test ks ≡ is_among n (map view ks)
    key_among [] = refl
    key_among (k ∷ ks) = rw (same k, key_among ks) refl

    -- the position of the key is that of the name
    pub key_position : (ks : List X) → position_or_len test ks ≡ position_of n (map view ks)
    key_position [] = refl
    key_position (k ∷ ks) = rw (same k, key_position ks) refl

    -- a key that is found is found at the position of the name
    pub found_position : (ks : List X) (i : ℕ) → position test ks ≡ Some i → i ≡ position_of n (map view ks)
    found_position ks i h = go (nat_lt (position_or_len test ks) (length ks)) h ∙ key_position ks
      where
        go : (b : Bool) → cond b (Some (position_or_len test ks)) None ≡ Some i → i ≡ position_or_len test ks
        go true h = cc
        go false h = cc

  -- appending a key to the set appends its name to the names
  pub names-push : (ks : List X) (k : X) → map view (ks ++ k ∷ []) ≡ map view ks ++ view k ∷ []
  names-push [] k = refl
  names-push (j ∷ ks) k = ap (λ ns. view j ∷ ns) (names-push ks k)

  -- inserting a new key appends its name to the names
  pub names-insert_key : (eq : X → X → Bool) (ks new : List X) (k : X) → new ≡ insert_key eq ks k → list_any (eq k) ks ≡ false → map view new ≡ map view ks ++ view k ∷ []
  names-insert_key eq ks new k e h = ap (map view) (e ∙ ap (λ b. cond b ks (ks ++ k ∷ [])) h) ∙ names-push ks k

-- in a list of distinct names, each name differs from those before it
pub not_before : (before : List Name) (n : Name) (behind : List Name) → AreDistinct (before ++ n ∷ behind) → is_among n before ≡ false
not_before [] n behind h = refl
not_before (m ∷ before) n behind h = go (is_same n m) refl (among before h.0) (not_before before n behind h.1)
  where
    among : (before : List Name) → is_among m (before ++ n ∷ behind) ≡ false → is_same m n ≡ false
    among [] h = first (is_same m n) h
      where
        first : (v : Bool) → v || is_among m behind ≡ false → v ≡ false
        first true h = cc
        first false h = refl
    among (k ∷ before) h = among before (later (is_same m k) h)
      where
        later : (v : Bool) → v || is_among m (before ++ n ∷ behind) ≡ false → is_among m (before ++ n ∷ behind) ≡ false
        later true h = cc
        later false h = h

    go : (v : Bool) → is_same n m ≡ v → is_same m n ≡ false → is_among n before ≡ false → is_among n (m ∷ before) ≡ false
    go true e other ih = let s = equal_same m n (sym (same_equal n m e)) in cc
    go false e other ih = rw (e, ih) refl

-- a look-up returns the position of the name, and none exactly if the name isn't in the list
pub found_at : {X : Type 0} (view : X → Name) (n : Name) (test : X → Bool) (same : (k : X) → test k ≡ is_same n (view k)) (ks : List X) (o : Option ℕ) → o ≡ position test ks → is_some o ≡ list_any test ks
    → MatchOption o (IsFalse (is_among n (map view ks))) (λ i. (i ≡ position_of n (map view ks)) × IsTrue (is_among n (map view ks)))
found_at view n test same ks None e f = sym (key_among view n test same ks) ∙ sym f
found_at view n test same ks (Some i) e f = (found_position view n test same ks i (sym e), sym (key_among view n test same ks) ∙ sym f)

-- a set into which the next of some distinct names is inserted has the names up to it
pub one_more_name : {X : Type 0} (view : X → Name) (eq : X → X → Bool) (ks new : List X) (k : X) (left all : List Name) → ((j : X) → eq k j ≡ is_same (view k) (view j)) → new ≡ insert_key eq ks k
    → map view ks ++ view k ∷ left ≡ all → AreDistinct all → map view new ++ left ≡ all
one_more_name view eq ks new k left all same e so_far distinct =
    let absent : is_among (view k) (map view ks) ≡ false = not_before (map view ks) (view k) left (subst AreDistinct (sym so_far) distinct) in
    ap (λ (ns : List Name). ns ++ left) (names-insert_key view eq ks new k e (key_among view (view k) (eq k) same ks ∙ absent))
    ∙ append_assoc (map view ks) (view k ∷ []) left
    ∙ so_far

-- the position of a name that isn't in a list is the list's length
pub absent_position : {X : Type 0} (view : X → Name) (n : Name) (ks : List X) → is_among n (map view ks) ≡ false → length ks ≡ position_of n (map view ks)
absent_position view n [] h = refl
absent_position view n (k ∷ ks) h = go (is_same n (view k)) refl h (absent_position view n ks)
  where
    go : (v : Bool) → is_same n (view k) ≡ v → v || is_among n (map view ks) ≡ false → (is_among n (map view ks) ≡ false → length ks ≡ position_of n (map view ks)) → length (k ∷ ks) ≡ position_of n (map view (k ∷ ks))
    go true e h ih = cc
    go false e h ih = (let l = ih h in let s : suc (length ks) ≡ 1 + position_of n (map view ks) = omega (arith, l) in s) ∙ ap (λ (v : Bool). cond (not v) (1 + position_of n (map view ks)) 0) (sym e)
