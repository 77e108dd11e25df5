-- Distinct names, by their numbers.
use Rattle.std.proofs.Common.{◌≡◌, ℕ, zero, suc, ◌+◌, ◌<◌, ◌≤◌, nat_lt, Bool, true, false, cond, not, if◌then◌else◌, ◌||◌, List}
use Rattle.std.proofs.Common.{[], ◌∷◌, ◌++◌, length, take, refl, ap, sym, ◌∙◌, arith}
use Rattle.std.specs.Prelude.{slice_get}
use Rattle.std.specs.List.{AllByRecursion}
use Rattle.std.proofs.lemmas.Bool.{or_parts as neither}
use Rattle.std.proofs.lemmas.Bool.Decides.{nat_tests}
use Rattle.its_text.specs.expr_text.model.Programs.{Name, Symbol, arity_in}
use Rattle.its_text.specs.expr_text.text_core.Names.{IsName, is_same, is_among, position_of, AreDistinct}
use Rattle.its_text.proofs.expr_text.text_core.NameLaws.{is_same_self, differ_back}
use Rattle.its_text.specs.expr_text.Terms.{with_name}
use Rattle.its_text.specs.Numbering as numbered
use Rattle.its_text.specs.Numbering.{names_of, with_symbol}
use Rattle.its_writer.specs.Expressions.{name_at}
use Rattle.its_writer.specs.Spellable.{known_with}

-- if all of some names are well-formed, so is the one with a number
pub name_at_is : (names : List Name) (i : ℕ) → AllByRecursion IsName names → i < length names → IsName (name_at names i)
name_at_is [] i is h = absurd (omega (arith, h))
name_at_is (n ∷ names) zero is h = is.0
name_at_is (n ∷ names) (suc i) is h = name_at_is names i is.1 (omega (arith, h))

-- a name that isn't among some names differs from each of them
none_at : (m : Name) (names : List Name) (i : ℕ) → is_among m names ≡ false → i < length names → is_same m (name_at names i) ≡ false
none_at m [] i e h = absurd (omega (arith, h))
none_at m (n ∷ names) zero e h = (neither (is_same m n) (is_among m names) e).0
none_at m (n ∷ names) (suc i) e h = none_at m names i (neither (is_same m n) (is_among m names) e).1 (omega (arith, h))

-- the position of the name with a number is that number, if the names are distinct
pub position_at : (names : List Name) (i : ℕ) → AreDistinct names → i < length names → position_of (name_at names i) names ≡ i
position_at [] i d h = absurd (omega (arith, h))
position_at (m ∷ names) zero d h = ap (λ (v : Bool). cond (not v) (1 + position_of m names) 0) (is_same_self m)
position_at (m ∷ names) (suc i) d h =
    let within : i < length names = omega (arith, h) in
    let p = position_at names i d.1 within in
    ap (λ (v : Bool). cond (not v) (1 + position_of (name_at names i) names) 0) (differ_back m (name_at names i) (none_at m names i d.0 within))
    ∙ (let e : 1 + position_of (name_at names i) names ≡ suc i = omega (arith, p) in e)

-- the name with a number is among the first n names exactly if the number is below n
pub among_first : (names : List Name) (n i : ℕ) → AreDistinct names → i < length names → is_among (name_at names i) (take n names) ≡ nat_lt i n
among_first [] n i d h = absurd (omega (arith, h))
among_first (m ∷ names) zero i d h = let e : nat_lt i 0 ≡ false = grind (arith, nat_tests) in sym e
among_first (m ∷ names) (suc n) zero d h =
    ap (λ (v : Bool). v || is_among m (take n names)) (is_same_self m) ∙ (let e : nat_lt 0 (suc n) ≡ true = grind (arith, nat_tests) in sym e)
among_first (m ∷ names) (suc n) (suc i) d h =
    let within : i < length names = omega (arith, h) in
    ap (λ (v : Bool). v || is_among (name_at names i) (take n names)) (differ_back m (name_at names i) (none_at m names i d.0 within))
    ∙ among_first names n i d.1 within
    ∙ (let e : nat_lt i n ≡ nat_lt (suc i) (suc n) = grind (arith, nat_tests) in e)

-- the first n names and the next one are the first n + 1 names
pub first_next : (names : List Name) (n : ℕ) → n < length names → take n names ++ name_at names n ∷ [] ≡ take (suc n) names
first_next [] n h = absurd (omega (arith, h))
first_next (m ∷ names) zero h = refl
first_next (m ∷ names) (suc n) h = ap (λ ns. m ∷ ns) (first_next names n (omega (arith, h)))

-- reading a name after the first n, where it is one of them or the next one, gives the first `known_with n i` names
pub first_with : (names : List Name) (n i : ℕ) → AreDistinct names → i ≤ n → i < length names → with_name (take n names) (name_at names i) ≡ take (known_with n i) names
first_with names n i d le h =
    ap (λ (v : Bool). if v then take n names else take n names ++ name_at names i ∷ []) (among_first names n i d h) ∙ go (nat_lt i n) refl
  where
    go : (v : Bool) → nat_lt i n ≡ v → (if v then take n names else take n names ++ name_at names i ∷ []) ≡ take (if v then n else suc i) names
    go true e = refl
    go false e =
        let same : n ≡ i = let k : n ≤ i = grind (arith, nat_tests) in omega (arith, k, le) in
        ap (λ m. take m names ++ name_at names i ∷ []) same ∙ first_next names i h

-- at least as many items are known after one as before it, and more than the item's number
pub known_grows : (n i : ℕ) → n ≤ known_with n i
known_grows n i = go (nat_lt i n) refl
  where
    go : (v : Bool) → nat_lt i n ≡ v → n ≤ (if v then n else suc i)
    go true e = omega arith
    go false e = let k : n ≤ i = grind (arith, nat_tests) in omega (arith, k)

pub known_above : (n i : ℕ) → i < known_with n i
known_above n i = go (nat_lt i n) refl
  where
    go : (v : Bool) → nat_lt i n ≡ v → i < (if v then n else suc i)
    go true e = let k : i < n = grind (arith, nat_tests) in k
    go false e = omega arith

-- the names of the first n symbols are the first n names
names_first : (symbols : List Symbol) (n : ℕ) → names_of (take n symbols) ≡ take n (names_of symbols)
names_first [] zero = refl
names_first [] (suc n) = refl
names_first (s ∷ symbols) zero = refl
names_first (s ∷ symbols) (suc n) = ap (λ ns. s.name ∷ ns) (names_first symbols n)

-- the first n symbols and the next one are the first n + 1 symbols
symbols_next : (symbols : List Symbol) (n : ℕ) → n < length symbols
    → take n symbols ++ record { name = name_at (names_of symbols) n; arity = arity_in (slice_get symbols n) } ∷ [] ≡ take (suc n) symbols
symbols_next [] n h = absurd (omega (arith, h))
symbols_next (s ∷ symbols) zero h = refl
symbols_next (s ∷ symbols) (suc n) h = ap (λ ss. s ∷ ss) (symbols_next symbols n (omega (arith, h)))

pub names_count : (symbols : List Symbol) → length (names_of symbols) ≡ length symbols
names_count [] = refl
names_count (s ∷ symbols) = let e = names_count symbols in omega (arith, e)

-- reading a symbol after the first n, where it is one of them or the next one, gives the first `known_with n i` symbols
pub symbols_with : (symbols : List Symbol) (n i arity : ℕ) → AreDistinct (names_of symbols) → i ≤ n → i < length symbols → arity_in (slice_get symbols i) ≡ arity
    → with_symbol (take n symbols) (name_at (names_of symbols) i) arity ≡ take (known_with n i) symbols
symbols_with symbols n i arity d le h places =
    ap (λ (v : Bool). if v then take n symbols else take n symbols ++ record { name = name_at (names_of symbols) i; arity = arity } ∷ [])
    (ap (is_among (name_at (names_of symbols) i)) (names_first symbols n)
    ∙ among_first (names_of symbols) n i d (let c = names_count symbols in omega (arith, c, h)))
    ∙ go (nat_lt i n) refl
  where
    go : (v : Bool) → nat_lt i n ≡ v → (if v then take n symbols else take n symbols ++ record { name = name_at (names_of symbols) i; arity = arity } ∷ []) ≡ take (if v then n else suc i) symbols
    go true e = refl
    go false e =
        let same : n ≡ i = let k : n ≤ i = grind (arith, nat_tests) in omega (arith, k, le) in
        ap (λ m. take m symbols ++ record { name = name_at (names_of symbols) i; arity = arity } ∷ []) same
        ∙ ap (λ a. take i symbols ++ record { name = name_at (names_of symbols) i; arity = a } ∷ []) (sym places)
        ∙ symbols_next symbols i h

-- looking up a symbol's number of places by its name gives that number
pub places_named : (symbols : List Symbol) (i : ℕ) → AreDistinct (names_of symbols) → i < length symbols → numbered.arity_of symbols (name_at (names_of symbols) i) ≡ arity_in (slice_get symbols i)
places_named [] i d h = absurd (omega (arith, h))
places_named (s ∷ symbols) zero d h = ap (λ (v : Bool). if v then s.arity else numbered.arity_of symbols s.name) (is_same_self s.name)
places_named (s ∷ symbols) (suc i) d h =
    let within : i < length symbols = omega (arith, h) in
    let named : i < length (names_of symbols) = let c = names_count symbols in omega (arith, c, within) in
    ap (λ (v : Bool). if v then s.arity else numbered.arity_of symbols (name_at (names_of symbols) i)) (differ_back s.name (name_at (names_of symbols) i) (none_at s.name (names_of symbols) i d.0 named))
    ∙ places_named symbols i d.1 within
