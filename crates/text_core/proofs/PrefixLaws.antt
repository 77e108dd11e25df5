-- The prefix of elements that pass a test and the rest make up the list.
use Rattle.std.proofs.Common.{◌≡◌, Bool, true, false, cond, ◌&&◌, List, [], ◌∷◌, ◌++◌, length, take, drop, refl, ap}
use Rattle.std.specs.Prelude.{⊤}
use Rattle.std.specs.List.{list_all}
use Rattle.text_core.specs.Prefixes.{prefix, rest}

module _ {X : Type 0} (p : X → Bool) where
  -- appending the rest to the prefix gives the list
  pub prefix-rest : (xs : List X) → prefix p xs ++ rest p xs ≡ xs
  prefix-rest [] = refl
  prefix-rest (x ∷ xs) = go (p x) (prefix-rest xs) where
    go : (b : Bool) → prefix p xs ++ rest p xs ≡ xs → cond b (x ∷ prefix p xs) [] ++ cond b (rest p xs) (x ∷ xs) ≡ x ∷ xs
    go true ih = ap (λ ys. x ∷ ys) ih
    go false ih = refl

  -- each element of the prefix passes
  pub all_prefix : (xs : List X) → list_all p (prefix p xs) ≡ true
  all_prefix [] = refl
  all_prefix (x ∷ xs) = go (p x) refl (all_prefix xs) where
    go : (b : Bool) → p x ≡ b → list_all p (prefix p xs) ≡ true → list_all p (cond b (x ∷ prefix p xs) []) ≡ true
    go true e ih = rw e ih
    go false e ih = refl

  -- taking as many elements as the prefix has gives the prefix
  pub take-prefix : (xs : List X) → take (length (prefix p xs)) xs ≡ prefix p xs
  take-prefix [] = refl
  take-prefix (x ∷ xs) = go (p x) (take-prefix xs) where
    go : (b : Bool) → take (length (prefix p xs)) xs ≡ prefix p xs → take (length (cond b (x ∷ prefix p xs) [])) (x ∷ xs) ≡ cond b (x ∷ prefix p xs) []
    go true ih = ap (λ ys. x ∷ ys) ih
    go false ih = refl

  -- dropping as many elements as the prefix has gives the rest
  pub drop-prefix : (xs : List X) → drop (length (prefix p xs)) xs ≡ rest p xs
  drop-prefix [] = refl
  drop-prefix (x ∷ xs) = go (p x) (drop-prefix xs) where
    go : (b : Bool) → drop (length (prefix p xs)) xs ≡ rest p xs → drop (length (cond b (x ∷ prefix p xs) [])) (x ∷ xs) ≡ cond b (rest p xs) (x ∷ xs)
    go true ih = ih
    go false ih = refl

  -- the list is empty, or its first element doesn't pass
  abbrev pub Stops : List X → Type 0
  Stops [] = ⊤
  Stops (x ∷ xs) = p x ≡ false

  -- the rest is empty, or its first element doesn't pass
  pub stops : (xs : List X) → Stops (rest p xs)
  stops [] = tt
  stops (x ∷ xs) = go (p x) refl (stops xs) where
    go : (b : Bool) → p x ≡ b → Stops (rest p xs) → Stops (cond b (rest p xs) (x ∷ xs))
    go true e ih = ih
    go false e ih = e

  -- elements that pass can be dropped before taking the rest
  pub rest-append : (xs ys : List X) → list_all p xs ≡ true → rest p (xs ++ ys) ≡ rest p ys
  rest-append [] ys h = refl
  rest-append (x ∷ xs) ys h = go (p x) h (rest-append xs ys) where
    go : (b : Bool) → b && list_all p xs ≡ true → (list_all p xs ≡ true → rest p (xs ++ ys) ≡ rest p ys) → cond b (rest p (xs ++ ys)) (x ∷ (xs ++ ys)) ≡ rest p ys
    go true h ih = ih h
    go false h ih = cc

  -- a list whose first element doesn't pass is its own rest
  pub rest-stops : (xs : List X) → Stops xs → rest p xs ≡ xs
  rest-stops [] h = refl
  rest-stops (x ∷ xs) h = rw h refl

  -- if the rest is empty, each element passes
  pub all-rest : (xs : List X) → rest p xs ≡ [] → list_all p xs ≡ true
  all-rest [] h = refl
  all-rest (x ∷ xs) h = go (p x) refl h (all-rest xs) where
    go : (b : Bool) → p x ≡ b → cond b (rest p xs) (x ∷ xs) ≡ [] → (rest p xs ≡ [] → list_all p xs ≡ true) → b && list_all p xs ≡ true
    go true e h ih = ih h
    go false e h ih = cc

  -- if each element passes, the rest is empty
  pub rest-all : (xs : List X) → list_all p xs ≡ true → rest p xs ≡ []
  rest-all [] h = refl
  rest-all (x ∷ xs) h = go (p x) h (rest-all xs) where
    go : (b : Bool) → b && list_all p xs ≡ true → (list_all p xs ≡ true → rest p xs ≡ []) → cond b (rest p xs) (x ∷ xs) ≡ []
    go true h ih = ih h
    go false h ih = cc

  -- elements that pass, before a list whose first element doesn't, are the prefix of both
  pub prefix-append : (xs ys : List X) → list_all p xs ≡ true → Stops ys → prefix p (xs ++ ys) ≡ xs
  prefix-append [] [] h s = refl
  prefix-append [] (y ∷ ys) h s = rw s refl
  prefix-append (x ∷ xs) ys h s = go (p x) h (λ k. prefix-append xs ys k s) where
    go : (b : Bool) → b && list_all p xs ≡ true → (list_all p xs ≡ true → prefix p (xs ++ ys) ≡ xs) → cond b (x ∷ prefix p (xs ++ ys)) [] ≡ x ∷ xs
    go true h ih = ap (λ zs. x ∷ zs) (ih h)
    go false h ih = cc
