-- Building a list from another, element by element.
use Rattle.std.proofs.Common.{◌≡◌, ℕ, zero, suc, ◌<◌, ◌-◌, List, [], ◌∷◌, ◌++◌, length, map, Some, None, refl, sym, ap}
use Rattle.std.proofs.Common.{subst, ◌∙◌, arith, append_assoc, append-nil}
use Rattle.std.specs.Prelude.{drop, slice_get}

-- a mapped list with one more element
pub map-push : {X Y : Type 0} (f : X → Y) (xs : List X) (x : X) → map f (xs ++ x ∷ []) ≡ map f xs ++ f x ∷ []
map-push f [] x = refl
map-push f (y ∷ xs) x = ap (λ ys. f y ∷ ys) (map-push f xs x)

length-push : {X : Type 0} (xs : List X) (x : X) → length (xs ++ x ∷ []) ≡ suc (length xs)
length-push [] x = refl
length-push (y ∷ xs) x = ap suc (length-push xs x)

module _ {X Y Z : Type 0} (f : X → Y) (g : Z → Y) where
  -- the rest of a list from a position begins with the element there
  drop_found : (keys : List X) (n : ℕ) (k : X) → slice_get keys n ≡ Some k
      → drop n (map f keys) ≡ f k ∷ drop (suc n) (map f keys)
  drop_found [] n k e = cc
  drop_found (x ∷ keys) zero k e = let same : x ≡ k = cc in ap (λ x. f x ∷ map f keys) same
  drop_found (x ∷ keys) (suc n) k e = drop_found keys n k e

  drop_ended : (keys : List X) (n : ℕ) → slice_get keys n ≡ None → drop n (map f keys) ≡ []
  drop_ended [] zero e = refl
  drop_ended [] (suc n) e = refl
  drop_ended (x ∷ keys) zero e = cc
  drop_ended (x ∷ keys) (suc n) e = drop_ended keys n e

  -- one more element has been built, and the built ones and the rest still give the mapped list
  pub made_further : (keys : List X) (done : List Z) (z : Z) (k : X)
      → map g done ++ drop (length done) (map f keys) ≡ map f keys → slice_get keys (length done) ≡ Some k → g z ≡ f k
      → map g (done ++ z ∷ []) ++ drop (length (done ++ z ∷ [])) (map f keys) ≡ map f keys
  made_further keys done z k h found same =
      ap (λ ys. ys ++ drop (length (done ++ z ∷ [])) (map f keys)) (map-push g done z)
      ∙ (ap (λ n. (map g done ++ g z ∷ []) ++ drop n (map f keys)) (length-push done z)
      ∙ (append_assoc (map g done) (g z ∷ []) (drop (suc (length done)) (map f keys))
      ∙ (ap (λ y. map g done ++ y ∷ drop (suc (length done)) (map f keys)) same
      ∙ (ap (λ ys. map g done ++ ys) (sym (drop_found keys (length done) k found)) ∙ h))))

  -- if no element is left, all have been built
  pub made_whole : (keys : List X) (done : List Z) → map g done ++ drop (length done) (map f keys) ≡ map f keys
      → slice_get keys (length done) ≡ None → map g done ≡ map f keys
  made_whole keys done h ended = sym (append-nil (map g done))
      ∙ (ap (λ ys. map g done ++ ys) (sym (drop_ended keys (length done) ended)) ∙ h)

  found_within : (keys : List X) (n : ℕ) (k : X) → slice_get keys n ≡ Some k → n < length (map f keys)
  found_within [] n k e = cc
  found_within (x ∷ keys) zero k e = omega arith
  found_within (x ∷ keys) (suc n) k e = let h = found_within keys n k e in omega (arith, h)

  -- with one more element built, fewer are left
  pub made_smaller : (keys : List X) (done new : List Z) (z : Z) (k : X) (ys : List Y) → map f keys ≡ ys
      → slice_get keys (length done) ≡ Some k → new ≡ done ++ z ∷ [] → length ys - length new < length ys - length done
  made_smaller keys done new z k ys same found e =
      let within : length done < length ys = subst (λ ys. length done < length ys) same
      (found_within keys (length done) k found) in
      let more : length new ≡ suc (length done) = ap length e ∙ length-push done z in
      omega (arith, within, more)
