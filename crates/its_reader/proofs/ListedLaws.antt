-- A table of symbols, entry by entry.
use Rattle.std.specs.Prelude.{◌≡◌, ℕ, zero, suc, ◌<◌, ◌-◌, slice_get, drop, take, List, [], ◌∷◌, ◌++◌, map, length}
use Rattle.std.specs.Prelude.{Some, None, refl}
use Rattle.std.specs.Borrow.{Bor}
use Rattle.std.proofs.Common.{sym, ap, subst, ◌∙◌}
use Rattle.model.specs.Programs.{Name, Symbol}
use Rattle.its_model.specs.declared.program.Symbol as code
use Rattle.its_model.specs.Views.{symbol_of}
use Rattle.its_reader.specs.Finishing.{tabled, with_arity}
use Rattle.its_reader.proofs.NameLists.{made_further, made_whole, made_smaller}

-- the name at a position, as plain data
pub key_found : (keys : List (Bor (List ℕ))) (n : ℕ) (k : Bor (List ℕ)) → slice_get keys n ≡ Some k
    → slice_get (map (λ k. k.now) keys) n ≡ Some k.now
key_found [] n k e = cc
key_found (x ∷ keys) zero k e = let same : x ≡ k = cc in ap (λ (x : Bor (List ℕ)). Some x.now) same
key_found (x ∷ keys) (suc n) k e = key_found keys n k e

-- a position without a name has none as plain data
pub key_missing : (keys : List (Bor (List ℕ))) (n : ℕ) → slice_get keys n ≡ None
    → slice_get (map (λ k. k.now) keys) n ≡ None
key_missing [] n e = refl
key_missing (x ∷ keys) zero e = cc
key_missing (x ∷ keys) (suc n) e = key_missing keys n e

-- the entry of a table at a position
pub tabled_at : (names : List Name) (arities : List ℕ) (n : ℕ) (name : Name) → slice_get names n ≡ Some name
    → with_arity name (slice_get arities n) ≡ slice_get (tabled names arities) n
tabled_at [] arities n name e = cc
tabled_at (m ∷ names) [] n name e = refl
tabled_at (m ∷ names) (a ∷ arities) zero name e = let same : name ≡ m = cc in
    ap (λ (m : Name). Some (record { name = m; arity = a })) same
tabled_at (m ∷ names) (a ∷ arities) (suc n) name e = tabled_at names arities n name e

-- past the last name the table has no entry
pub tabled_none : (names : List Name) (arities : List ℕ) (n : ℕ) → slice_get names n ≡ None
    → None ≡ slice_get (tabled names arities) n
tabled_none [] arities n e = refl
tabled_none (m ∷ names) [] n e = refl
tabled_none (m ∷ names) (a ∷ arities) zero e = cc
tabled_none (m ∷ names) (a ∷ arities) (suc n) e = tabled_none names arities n e

-- the first elements of a mapped list are the mapped first elements
pub map-take : {X Y : Type 0} (f : X → Y) (n : ℕ) (xs : List X) → map f (take n xs) ≡ take n (map f xs)
map-take f zero xs = refl
map-take f (suc n) [] = refl
map-take f (suc n) (x ∷ xs) = ap (λ ys. f x ∷ ys) (map-take f n xs)

map-self : {X : Type 0} (xs : List X) → map (λ x. x) xs ≡ xs
map-self [] = refl
map-self (x ∷ xs) = ap (λ ys. x ∷ ys) (map-self xs)

-- symbols are built from a table, one by one
module _ (table : List Symbol) (done : List code.Symbol) where
  -- after one more symbol is built, the built ones and the rest of the table still give the table
  pub made_more : (z : code.Symbol) (k : Symbol) → map symbol_of done ++ drop (length done) table ≡ table
      → slice_get table (length done) ≡ Some k → symbol_of z ≡ k
      → map symbol_of (done ++ z ∷ []) ++ drop (length (done ++ z ∷ [])) table ≡ table
  made_more z k h found same =
      subst (λ l. map symbol_of (done ++ z ∷ []) ++ drop (length (done ++ z ∷ [])) l ≡ l) (map-self table)
      (made_further (λ s. s) symbol_of table done z k
      (subst (λ l. map symbol_of done ++ drop (length done) l ≡ l) (sym (map-self table)) h) found same)

  -- if the table has no further entry, all its symbols have been built
  pub made_all : map symbol_of done ++ drop (length done) table ≡ table → slice_get table (length done) ≡ None
      → map symbol_of done ≡ table
  made_all h ended = made_whole (λ s. s) symbol_of table done
      (subst (λ l. map symbol_of done ++ drop (length done) l ≡ l) (sym (map-self table)) h) ended ∙ map-self table

  -- with one more symbol built, the rest of the table is shorter
  pub made_less : (new : List code.Symbol) (z : code.Symbol) (k : Symbol) → slice_get table (length done) ≡ Some k
      → new ≡ done ++ z ∷ [] → length table - length new < length table - length done
  made_less new z k found e = made_smaller (λ s. s) symbol_of table done new z k table (map-self table) found e
