-- The names of symbols and variables of a translation are names, and none occurs twice.
use Rattle.std.proofs.Common.{◌≡◌, ℕ, zero, suc, ◌<◌, ◌^◌, ◌&&◌, ◌||◌, Bool, true, false, List, [], ◌∷◌, ◌++◌, length, map}
use Rattle.std.proofs.Common.{inl, inr, refl, sym, arith}
use Rattle.std.specs.Prelude.{nat_eq}
use Rattle.std.specs.List.{AllByRecursion, list_any, list_all, Contains}
use Rattle.std.specs.Char.{digit_value}
use Rattle.std.specs.Cmp.Lexicographic.{pointwise}
use Rattle.std.specs.Fmt.{decimal}
use Rattle.std.specs.Str.Parse.{AllDigits}
use Rattle.std.proofs.lemmas.Bool.{true≢false}
use Rattle.std.proofs.lemmas.Bool.Decides.{nat_tests}
use Rattle.std.proofs.lemmas.Fmt.{decimal_is_IsNumeral, decimal_injective}
use Rattle.while_model.specs.model.Programs.{Name}
use Rattle.while_model.specs.Translation.{longest, apart_from, free_name, symbol_of}
use Rattle.while_model.proofs.Members.{IsIn}
use Rattle.its_model.specs.text_core.Names.{continues_name, IsName, is_same, is_among, AreDistinct}
use Rattle.its_model.proofs.text_core.NameLaws.{same_equal}
use Rattle.while_front.proofs.PointLists.{AreApart}

-- A digit continues a name.
digit_continues : (c : ℕ) → digit_value c < 10 → continues_name c ≡ true
digit_continues c h = grind (arith, nat_tests)

digits_continue : (ds : List ℕ) → AllDigits 10 ds → list_all continues_name ds ≡ true
digits_continue [] h = refl
digits_continue (c ∷ ds) h = rw (digit_continues c h.0, digits_continue ds h.1) refl

-- The name of a point is a name.
pub point_is_name : (k : ℕ) → k < 2 ^ 64 → IsName (112 ∷ decimal k)
point_is_name k small = (refl, digits_continue (decimal k) (decimal_is_IsNumeral k small).0.1)

-- The name of a point isn't among the names of other points.
absent : (inputs : List Name) (x : ℕ) (xs : List ℕ) → x < 2 ^ 64 → AllByRecursion (λ k. k < 2 ^ 64) xs
    → ¬ (IsIn x xs) → is_among (112 ∷ decimal x) (map (λ s. s.name) (map (symbol_of inputs) xs)) ≡ false
absent inputs x [] small smalls new = refl
absent inputs x (y ∷ xs) small (low, smalls) new =
    go (is_same (112 ∷ decimal x) (112 ∷ decimal y)) refl (absent inputs x xs small smalls (λ i. new (inr i)))
  where
    same_point : 112 ∷ decimal x ≡ 112 ∷ decimal y → x ≡ y
    same_point e = decimal_injective x y small low (tails e)
      where
        tails : 112 ∷ decimal x ≡ 112 ∷ decimal y → decimal x ≡ decimal y
        tails d = cc

    go : (v : Bool) → is_same (112 ∷ decimal x) (112 ∷ decimal y) ≡ v
        → is_among (112 ∷ decimal x) (map (λ s. s.name) (map (symbol_of inputs) xs)) ≡ false
        → (v || is_among (112 ∷ decimal x) (map (λ s. s.name) (map (symbol_of inputs) xs))) ≡ false
    go true e later = absurd (new (inl (same_point (same_equal (112 ∷ decimal x) (112 ∷ decimal y) e))))
    go false e later = later

-- The symbols of points have distinct names if no point occurs twice.
pub symbols_distinct : (inputs : List Name) (xs : List ℕ) → AllByRecursion (λ k. k < 2 ^ 64) xs → AreApart xs
    → AreDistinct (map (λ s. s.name) (map (symbol_of inputs) xs))
symbols_distinct inputs [] smalls apart = tt
symbols_distinct inputs (x ∷ xs) (small, smalls) (new, apart) =
    (absent inputs x xs small smalls new, symbols_distinct inputs xs smalls apart)

-- The second part of a conjunction that holds may be replaced by one that it implies.
both_pass : (a b d : Bool) → (b ≡ true → d ≡ true) → (a && b) ≡ true → (a && d) ≡ true
both_pass true b d f h = f h
both_pass false b d f h = absurd (true≢false (sym h))

one_more : (bytes : List ℕ) → list_all continues_name bytes ≡ true → list_all continues_name (bytes ++ 95 ∷ []) ≡ true
one_more [] h = refl
one_more (c ∷ bytes) h =
    both_pass (continues_name c) (list_all continues_name bytes) (list_all continues_name (bytes ++ 95 ∷ []))
    (one_more bytes) h

-- A name with a `_` after it is a name.
longer_is_name : (name : Name) → IsName name → IsName (name ++ 95 ∷ [])
longer_is_name [] h = absurd h
longer_is_name (b ∷ bytes) (begins, goes_on) = (begins, one_more bytes goes_on)

apart_is_name : (names : List Name) (most : ℕ) (name : Name) → IsName name → IsName (apart_from names most name)
apart_is_name names zero name h = h
apart_is_name names (suc most) name h =
    go (list_any (pointwise nat_eq name) names) refl (apart_is_name names most (name ++ 95 ∷ []) (longer_is_name name h))
  where
    go : (v : Bool) → list_any (pointwise nat_eq name) names ≡ v → IsName (apart_from names most (name ++ 95 ∷ []))
        → IsName (apart_from names (suc most) name)
    go true e later = rw e later
    go false e later = rw e h

-- The name of a free variable is a name.
pub free_is_name : (inputs : List Name) → IsName (free_name inputs)
free_is_name inputs = apart_is_name inputs (longest inputs) (104 ∷ []) (refl, refl)

-- A name that is neither among names nor the same as x is not among the names with x appended.
absent_append : (n : Name) (names : List Name) (x : Name) → is_among n names ≡ false → is_same n x ≡ false
    → is_among n (names ++ x ∷ []) ≡ false
absent_append n [] x a s = rw s refl
absent_append n (y ∷ names) x a s = go (is_same n y) a (λ h. absent_append n names x h s)
  where
    go : (v : Bool) → (v || is_among n names) ≡ false
        → (is_among n names ≡ false → is_among n (names ++ x ∷ []) ≡ false)
        → (v || is_among n (names ++ x ∷ [])) ≡ false
    go true h f = absurd (true≢false h)
    go false h f = f h

-- Distinct names stay distinct after a new name is appended.
pub distinct_append : (names : List Name) (x : Name) → AreDistinct names → ¬ (Contains names x)
    → AreDistinct (names ++ x ∷ [])
distinct_append [] x d new = (refl, tt)
distinct_append (n ∷ names) x (first, d) new = (absent_append n names x first other, distinct_append names x d later)
  where
    later : ¬ (Contains names x)
    later (k, low, at) = new (suc k, omega (arith, low), at)

    other : is_same n x ≡ false
    other = go (is_same n x) refl
      where
        go : (v : Bool) → is_same n x ≡ v → v ≡ false
        go true e = absurd (new (0, omega arith, same_equal n x e))
        go false e = refl
