-- Two names are the same exactly if their bytes are equal; distinct names stay distinct in another order, and with one
-- more name.
use Rattle.std.proofs.Common.{◌≡◌, Bool, true, false, List, [], ◌∷◌, ◌++◌, refl, sym, subst}
use Rattle.std.proofs.lemmas.Bool.{or_parts}
use Rattle.std.proofs.lemmas.Cmp.{nat_list_eq_equiv}
use Rattle.std.specs.Cmp.Lexicographic.{same_text}
use Rattle.model.specs.Programs.{Name}
use Rattle.text_core.specs.Names.{is_same, is_among, AreDistinct}

-- a name is the same as itself
pub is_same_self : (n : Name) → is_same n n ≡ true
is_same_self n = nat_list_eq_equiv.refl n

-- names that are the same are equal
pub same_equal : (n m : Name) → is_same n m ≡ true → n ≡ m
same_equal n m h = same_text n m (sym h)

-- equal names are the same
pub equal_same : (n m : Name) → n ≡ m → is_same n m ≡ true
equal_same n m e = subst (λ k. is_same n k ≡ true) e (is_same_self n)

-- two names that differ also differ in the other order
pub differ_back : (n m : Name) → is_same n m ≡ false → is_same m n ≡ false
differ_back n m h = go (is_same m n) refl
  where
    go : (v : Bool) → is_same m n ≡ v → is_same m n ≡ false
    go false e = e
    go true e = let same = equal_same n m (sym (same_equal m n e)) in cc

-- a name that is neither in a list nor equal to one more isn't in the list with that one
pub none_of_more : (m n : Name) (names : List Name) → is_among m names ≡ false → is_same m n ≡ false
    → is_among m (names ++ n ∷ []) ≡ false
none_of_more m n [] h e = rw e refl
none_of_more m n (k ∷ names) h e =
    let x = or_parts (is_same m k) (is_among m names) h in rw (x.0, none_of_more m n names x.1 e) refl

-- distinct names with one more that isn't among them are distinct
pub distinct_one_more : (names : List Name) (n : Name) → AreDistinct names → is_among n names ≡ false
    → AreDistinct (names ++ n ∷ [])
distinct_one_more [] n h e = (refl, tt)
distinct_one_more (m ∷ names) n h e =
    let x = or_parts (is_same n m) (is_among n names) e in
    (none_of_more m n names h.0 (differ_back n m x.0), distinct_one_more names n h.1 x.1)
