-- Parts of bounds that are found one after the other.
use Rattle.std.proofs.Common.{◌≡◌, ℕ, ◌+◌, ◌<◌, ◌≤◌, Bool, true, false, List, [], ◌∷◌, ◌++◌, map, drop, get_or, length}
use Rattle.std.proofs.Common.{Option, Some, None, refl, ap, sym, ◌∙◌}
use Rattle.std.specs.Prelude.{if◌then◌else◌, ◌&&◌, not, filter}
use Rattle.std.proofs.lemmas.List.{drop_more, drop_all}
use Rattle.signed_bounds.specs.Bounds.{Signed, SignedParts, NoParts, Part}
use Rattle.signed_bounds.specs.Views.{parts_of}
use Rattle.potential_nodes.specs.Facts.{SignedFact}
use Rattle.potential_nodes.specs.Tables as plain
use Rattle.potential_nodes.specs.Tables.{PotentialTable}
use Rattle.potential_nodes.specs.Falls.{with_bound, gain_parts, sum_cited}
use Rattle.potential_nodes.specs.Peaks.{keeps_function, sets_anew, peak_parts, peak_cited}
use Rattle.potential_types.specs.declared.tables.Move.{Move}
use Rattle.potential_types.specs.Views.{move_of}
use Rattle.check_potentials.specs.Parts.{in_front, kept_cited}
use Rattle.check_potentials.specs.Stages.{is_level_within, are_levels_within}

-- one more bound in front of the parts
pub in_front_one : (bs : List Signed) (b : Signed) (parts : SignedParts)
    → in_front (bs ++ b ∷ []) parts ≡ in_front bs (Part b parts)
in_front_one [] b parts = refl
in_front_one (c ∷ bs) b parts = ap (Part c) (in_front_one bs b parts)

-- bounds alone
pub in_front_none : (bs : List Signed) → in_front bs NoParts ≡ parts_of bs
in_front_none [] = refl
in_front_none (b ∷ bs) = ap (Part b) (in_front_none bs)

-- the moves from a place on
moves-more : {A : Type 0} (f : List plain.Move → A) (ms : List Move) (i : ℕ) (m : Move) → i < length ms → m ≡ get_or ms
    i m
    → f (map move_of (drop i ms)) ≡ f (move_of m ∷ map move_of (drop (i + 1) ms))
moves-more f ms i m low e =
    ap (λ (xs : List Move). f (map move_of xs)) (drop_more ms i m low)
    ∙ ap (λ (x : Move). f (move_of x ∷ map move_of (drop (i + 1) ms))) (sym e)

moves-none : {A : Type 0} (f : List plain.Move → A) (ms : List Move) (i : ℕ) → length ms ≤ i
    → f (map move_of (drop i ms)) ≡ f []
moves-none f ms i low = ap (λ (xs : List Move). f (map move_of xs)) (drop_all i ms low)

-- the bound of one gain more
pub gains-more : (facts : List SignedFact) (ms : List Move) (i : ℕ) (m : Move) → i < length ms → m ≡ get_or ms i m
    → gain_parts facts (map move_of (drop i ms))
    ≡ with_bound (sum_cited facts (move_of m)) (gain_parts facts (map move_of (drop (i + 1) ms)))
gains-more facts ms i m low e = moves-more (gain_parts facts) ms i m low e

pub gains-none : (facts : List SignedFact) (ms : List Move) (i : ℕ) → length ms ≤ i
    → gain_parts facts (map move_of (drop i ms)) ≡ NoParts
gains-none facts ms i low = moves-none (gain_parts facts) ms i low

-- so for gains of moves that keep the function
kept-one : (facts : List SignedFact) (m : plain.Move) (ms : List plain.Move)
    → gain_parts facts (filter keeps_function (m ∷ ms))
    ≡ with_bound (kept_cited facts m) (gain_parts facts (filter keeps_function ms))
kept-one facts m ms = go m.keeps refl
  where
    go : (v : Bool) → m.keeps ≡ v → gain_parts facts (filter keeps_function (m ∷ ms))
        ≡ with_bound (kept_cited facts m) (gain_parts facts (filter keeps_function ms))
    go true e = rw e refl
    go false e = rw e refl

pub kept-more : (facts : List SignedFact) (ms : List Move) (i : ℕ) (m : Move) → i < length ms → m ≡ get_or ms i m
    → gain_parts facts (filter keeps_function (map move_of (drop i ms)))
    ≡ with_bound (kept_cited facts (move_of m)) (gain_parts facts
    (filter keeps_function (map move_of (drop (i + 1) ms))))
kept-more facts ms i m low e =
    moves-more (λ xs. gain_parts facts (filter keeps_function xs)) ms i m low e
    ∙ kept-one facts (move_of m) (map move_of (drop (i + 1) ms))

pub kept-none : (facts : List SignedFact) (ms : List Move) (i : ℕ) → length ms ≤ i
    → gain_parts facts (filter keeps_function (map move_of (drop i ms))) ≡ NoParts
kept-none facts ms i low = moves-none (λ xs. gain_parts facts (filter keeps_function xs)) ms i low

-- whether a bound is high enough for the levels to which moves reset the function
abbrev pub resets-within : List SignedFact → PotentialTable → Signed → List plain.Move → Bool
resets-within facts tab b ms = are_levels_within facts tab b (peak_parts facts (filter sets_anew ms))

-- a move that keeps the function has no level, nor has one without a cited fact
pub reset-kept : (facts : List SignedFact) (tab : PotentialTable) (b : Signed) (m : plain.Move) (ms : List plain.Move)
    → m.keeps ≡ true → resets-within facts tab b (m ∷ ms) ≡ resets-within facts tab b ms
reset-kept facts tab b m ms e =
    ap (λ (v : Bool). are_levels_within facts tab b (peak_parts facts (if not v then m ∷ filter sets_anew ms
    else filter sets_anew ms))) e

reset-anew : (facts : List SignedFact) (tab : PotentialTable) (b : Signed) (m : plain.Move) (ms : List plain.Move)
    (o : Option Signed) → m.keeps ≡ false → peak_cited facts m ≡ o → resets-within facts tab b (m ∷ ms)
    ≡ are_levels_within facts tab b (with_bound o (peak_parts facts (filter sets_anew ms)))
reset-anew facts tab b m ms o e h =
    ap (λ (v : Bool). are_levels_within facts tab b (peak_parts facts (if not v then m ∷ filter sets_anew ms
    else filter sets_anew ms))) e
    ∙ ap (λ (p : Option Signed). are_levels_within facts tab b (with_bound p (peak_parts facts (filter sets_anew ms))))
    h

pub reset-uncited : (facts : List SignedFact) (tab : PotentialTable) (b : Signed) (m : plain.Move)
    (ms : List plain.Move)
    → m.keeps ≡ false → peak_cited facts m ≡ None → resets-within facts tab b (m ∷ ms) ≡ resets-within facts tab b ms
reset-uncited facts tab b m ms e h = reset-anew facts tab b m ms None e h

-- a level that is cited has to be high enough
pub reset-cited : (facts : List SignedFact) (tab : PotentialTable) (b : Signed) (m : plain.Move) (ms : List plain.Move)
    (head : Signed) → m.keeps ≡ false → peak_cited facts m ≡ Some head → resets-within facts tab b (m ∷ ms)
    ≡ (is_level_within facts tab b head && resets-within facts tab b ms)
reset-cited facts tab b m ms head e h = reset-anew facts tab b m ms (Some head) e h

and-true : (v : Bool) → (v && true) ≡ v
and-true true = refl
and-true false = refl

pub reset-cited-alone : (facts : List SignedFact) (tab : PotentialTable) (b : Signed) (m : plain.Move) (head : Signed)
    → m.keeps ≡ false → peak_cited facts m ≡ Some head → resets-within facts tab b (m ∷ [])
    ≡ is_level_within facts tab b head
reset-cited-alone facts tab b m head e h =
    reset-cited facts tab b m [] head e h ∙ and-true (is_level_within facts tab b head)

-- a move alone, and those after it
reset-one : (facts : List SignedFact) (tab : PotentialTable) (b : Signed) (m : plain.Move) (ms : List plain.Move)
    → resets-within facts tab b (m ∷ ms) ≡ (resets-within facts tab b (m ∷ []) && resets-within facts tab b ms)
reset-one facts tab b m ms = go m.keeps (peak_cited facts m) refl refl
  where
    go : (v : Bool) (o : Option Signed) → m.keeps ≡ v → peak_cited facts m ≡ o → resets-within facts tab b (m ∷ ms)
        ≡ (resets-within facts tab b (m ∷ []) && resets-within facts tab b ms)
    go true o e h =
        reset-kept facts tab b m ms e
        ∙ sym (ap (λ (v : Bool). v && resets-within facts tab b ms) (reset-kept facts tab b m [] e))
    go false None e h =
        reset-uncited facts tab b m ms e h
        ∙ sym (ap (λ (v : Bool). v && resets-within facts tab b ms) (reset-uncited facts tab b m [] e h))
    go false (Some head) e h =
        reset-cited facts tab b m ms head e h
        ∙ sym (ap (λ (v : Bool). v && resets-within facts tab b ms) (reset-cited-alone facts tab b m head e h))

pub resets-more : (facts : List SignedFact) (tab : PotentialTable) (b : Signed) (ms : List Move) (i : ℕ) (m : Move)
    (v : Bool) → i < length ms → m ≡ get_or ms i m → v ≡ resets-within facts tab b (move_of m ∷ [])
    → resets-within facts tab b (map move_of (drop i ms))
    ≡ (v && resets-within facts tab b (map move_of (drop (i + 1) ms)))
resets-more facts tab b ms i m v low e h =
    moves-more (resets-within facts tab b) ms i m low e
    ∙ reset-one facts tab b (move_of m) (map move_of (drop (i + 1) ms))
    ∙ ap (λ (t : Bool). t && resets-within facts tab b (map move_of (drop (i + 1) ms))) (sym h)

pub resets-none : (facts : List SignedFact) (tab : PotentialTable) (b : Signed) (ms : List Move) (i : ℕ) → length ms ≤ i
    → resets-within facts tab b (map move_of (drop i ms)) ≡ true
resets-none facts tab b ms i low = moves-none (resets-within facts tab b) ms i low
