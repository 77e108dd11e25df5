-- Parts that take parts one after another: offering one more part, the marks of the parts taken, and those left over.
use Rattle.std.proofs.Common.{◌≡◌, ℕ, ◌<◌, ◌==◌, Bool, true, false, cond, ◌&&◌, ◌||◌, List, [], ◌∷◌, length, slice_set}
use Rattle.std.proofs.Common.{slice_index_or, refl, ap, sym, ◌∙◌, arith}
use Rattle.std.specs.Prelude.{replicate}
use Rattle.std.specs.List.{list_any, list_all}
use Rattle.std.proofs.lemmas.Bool.{eqb-true, eqb-false}
use Rattle.std.proofs.Common.{eq-eqb}
use Rattle.std.proofs.lemmas.List.{length-set, get_or-set_same, get_or-set_other, length-replicate, get_or-replicate}
use Rattle.bound_expr.specs.model.Bounds.{Bound, Constant, Input, SumOf, ProductOf, MaximumOf, PowerOf}
use Rattle.bound_table.specs.Kinds.{is_power_or_input, is_same_input}
use Rattle.bound_table.specs.Below.{matched, leftovers, may_be_leftover}
use Rattle.bound_table.specs.Taking.{marked_one, marked, input_among, IsMarked}

-- of no parts none is taken and none is left over
pub taken-none : (related : Bound → Bound → Bool) (ps : List Bound) → matched related ps [] ≡ []
taken-none related [] = refl
taken-none related (p ∷ ps) = refl

-- setting a mark keeps the number of marks
length-marked_one : (marks : List Bool) (t : Bound) → length (marked_one marks t) ≡ length marks
length-marked_one marks (Input i) = length-set marks i true
length-marked_one marks (Constant c) = refl
length-marked_one marks (SumOf ps) = refl
length-marked_one marks (ProductOf ps) = refl
length-marked_one marks (MaximumOf ps) = refl
length-marked_one marks (PowerOf c e) = refl

-- setting all marks keeps the number of marks
pub length-marked : (marks : List Bool) (ts : List Bound) → length (marked marks ts) ≡ length marks
length-marked marks [] = refl
length-marked marks (t ∷ ts) = length-marked (marked_one marks t) ts ∙ length-marked_one marks t

-- one more mark is set exactly at the number of its input
get_or-marked_one : (marks : List Bool) (t : Bound) (i : ℕ) → i < length marks
    → slice_index_or (marked_one marks t) i false ≡ (is_same_input (Input i) t || slice_index_or marks i false)
get_or-marked_one marks (Input j) i h = go (i == j) refl
  where
    go : (same : Bool) → (i == j) ≡ same
        → slice_index_or (slice_set marks j true) i false ≡ (same || slice_index_or marks i false)
    go true is =
        let e : i ≡ j = eqb-true i j is in ap (λ (k : ℕ). slice_index_or (slice_set marks k true) i false) (sym e)
        ∙ get_or-set_same marks i true false h
    go false is = get_or-set_other marks j i true false (eqb-false i j is)
get_or-marked_one marks (Constant c) i h = refl
get_or-marked_one marks (SumOf ps) i h = refl
get_or-marked_one marks (ProductOf ps) i h = refl
get_or-marked_one marks (MaximumOf ps) i h = refl
get_or-marked_one marks (PowerOf c e) i h = refl

-- the disjunction with false changes nothing
pub or-false : (b : Bool) → (b || false) ≡ b
or-false true = refl
or-false false = refl

-- the disjunction of three tests doesn't depend on their order
or-swap : (a b c : Bool) → (a || (b || c)) ≡ ((b || a) || c)
or-swap true true c = refl
or-swap true false c = refl
or-swap false true c = refl
or-swap false false c = refl

-- a mark is set exactly if it was before, or one of the inputs has its number
get_or-marked : (marks : List Bool) (ts : List Bound) (i : ℕ) → i < length marks
    → slice_index_or (marked marks ts) i false ≡ (slice_index_or marks i false || list_any (is_same_input (Input i)) ts)
get_or-marked marks [] i h = sym (or-false (slice_index_or marks i false))
get_or-marked marks (t ∷ ts) i h =
    let still : i < length (marked_one marks t) = omega (arith, length-marked_one marks t) in
    get_or-marked (marked_one marks t) ts i still
    ∙ ap (λ v. v || list_any (is_same_input (Input i)) ts) (get_or-marked_one marks t i h)
    ∙ sym (or-swap (slice_index_or marks i false) (is_same_input (Input i) t) (list_any (is_same_input (Input i)) ts))

-- if nothing was marked before, the marks are exactly the inputs that are taken
pub marked-IsMarked : (n : ℕ) (marks : List Bool) (ts : List Bound) → marks ≡ marked (replicate n false) ts
    → IsMarked marks ts
marked-IsMarked n marks ts is = record {
  each = λ i h.
      let within : i < length (replicate n false) =
      omega (arith, ap (λ (ms : List Bool). length ms) is, length-marked (replicate n false) ts) in
      ap (λ (ms : List Bool). slice_index_or ms i false) is
      ∙ get_or-marked (replicate n false) ts i within
      ∙ ap (λ v. v || list_any (is_same_input (Input i)) ts)
      (get_or-replicate n i false false (omega (arith, length-replicate n false)));
}

-- an input is the same as itself
same_input-self : (i : ℕ) → is_same_input (Input i) (Input i) ≡ true
same_input-self i = eq-eqb i i refl

-- an input among some bounds is among them with one more
input_among-more : (ts : List Bound) (t g : Bound) → input_among ts g ≡ true → input_among (t ∷ ts) g ≡ true
input_among-more ts t (Input i) h = go (is_same_input (Input i) t)
  where
    go : (same : Bool) → (same || list_any (is_same_input (Input i)) ts) ≡ true
    go true = refl
    go false = h
input_among-more ts t (Constant c) h = refl
input_among-more ts t (SumOf ps) h = refl
input_among-more ts t (ProductOf ps) h = refl
input_among-more ts t (MaximumOf ps) h = refl
input_among-more ts t (PowerOf c e) h = refl

-- an input is among bounds that begin with it
input_among-first : (ts : List Bound) (t : Bound) → input_among (t ∷ ts) t ≡ true
input_among-first ts (Input i) = ap (λ v. v || list_any (is_same_input (Input i)) ts) (same_input-self i)
input_among-first ts (Constant c) = refl
input_among-first ts (SumOf ps) = refl
input_among-first ts (ProductOf ps) = refl
input_among-first ts (MaximumOf ps) = refl
input_among-first ts (PowerOf c e) = refl

-- all of a list are among another
abbrev AllAmong : List Bound → List Bound → Type 0
AllAmong us [] = Unit {0}
AllAmong us (t ∷ ts) = (input_among us t ≡ true) × AllAmong us ts

-- all of a list are among another with one more
AllAmong-more : (us : List Bound) (u : Bound) (ts : List Bound) → AllAmong us ts → AllAmong (u ∷ us) ts
AllAmong-more us u [] all = tt
AllAmong-more us u (t ∷ ts) all = (input_among-more us u t all.0, AllAmong-more us u ts all.1)

-- all of a list are among itself
AllAmong-self : (ts : List Bound) → AllAmong ts ts
AllAmong-self [] = tt
AllAmong-self (t ∷ ts) = (input_among-first ts t, AllAmong-more ts t ts (AllAmong-self ts))

-- an element that may be left over is a power or an input, and the input is among those taken
spare-kind : (us : List Bound) (g : Bound) → may_be_leftover us g ≡ (is_power_or_input g && input_among us g)
spare-kind us (Input i) = refl
spare-kind us (Constant c) = refl
spare-kind us (SumOf ps) = refl
spare-kind us (ProductOf ps) = refl
spare-kind us (MaximumOf ps) = refl
spare-kind us (PowerOf c e) = refl

-- the conjunction of four tests doesn't depend on the order of the middle two
and-swap : (a b c d : Bool) → ((a && b) && (c && d)) ≡ ((a && c) && (b && d))
and-swap true true c d = refl
and-swap true false true d = refl
and-swap true false false d = refl
and-swap false b c d = refl

-- the elements left over may be left over exactly if they are powers and inputs, and every input is among those taken
spare-split_among : (related : Bound → Bound → Bool) (us ps qs : List Bound) → AllAmong us (matched related ps qs)
    → list_all (may_be_leftover us) (leftovers related ps qs)
    ≡ (list_all is_power_or_input (leftovers related ps qs) && list_all (input_among us) qs)
spare-split_among related us [] [] all = refl
spare-split_among related us [] (q ∷ qs) all =
    ap (λ v. v && list_all (may_be_leftover us) qs) (spare-kind us q)
    ∙ ap (λ v. (is_power_or_input q && input_among us q) && v) (spare-split_among related us [] qs tt)
    ∙ and-swap (is_power_or_input q) (input_among us q) (list_all is_power_or_input qs) (list_all (input_among us) qs)
spare-split_among related us (p ∷ ps) [] all = refl
spare-split_among related us (p ∷ ps) (q ∷ qs) all =
    go (related p q) all (spare-split_among related us ps qs) (spare-split_among related us (p ∷ ps) qs)
  where
    go : (takes : Bool) → AllAmong us (cond takes (q ∷ matched related ps qs) (matched related (p ∷ ps) qs))
        → (AllAmong us (matched related ps qs) → list_all (may_be_leftover us) (leftovers related ps qs) ≡ (list_all is_power_or_input (leftovers related ps qs) && list_all (input_among us) qs))
        → (AllAmong us (matched related (p ∷ ps) qs) → list_all (may_be_leftover us) (leftovers related (p ∷ ps) qs) ≡ (list_all is_power_or_input (leftovers related (p ∷ ps) qs) && list_all (input_among us) qs))
        → list_all (may_be_leftover us) (cond takes (leftovers related ps qs) (q ∷ leftovers related (p ∷ ps) qs))
        ≡ (list_all is_power_or_input (cond takes (leftovers related ps qs) (q ∷ leftovers related (p ∷ ps) qs)) && (input_among us q && list_all (input_among us) qs))
    go true all ih ih' =
        ih all.1
        ∙ ap (λ v. list_all is_power_or_input (leftovers related ps qs) && (v && list_all (input_among us) qs)) (sym all.0)
    go false all ih ih' =
        ap (λ v. v && list_all (may_be_leftover us) (leftovers related (p ∷ ps) qs)) (spare-kind us q)
        ∙ ap (λ v. (is_power_or_input q && input_among us q) && v) (ih' all)
        ∙ and-swap (is_power_or_input q) (input_among us q) (list_all is_power_or_input (leftovers related (p ∷ ps) qs))
        (list_all (input_among us) qs)

-- the test of the elements left over is that of their kinds and that of the inputs
pub spare-split : (related : Bound → Bound → Bool) (ps qs : List Bound)
    → list_all (may_be_leftover (matched related ps qs)) (leftovers related ps qs)
    ≡ (list_all is_power_or_input (leftovers related ps qs) && list_all (input_among (matched related ps qs)) qs)
spare-split related ps qs =
    spare-split_among related (matched related ps qs) ps qs (AllAmong-self (matched related ps qs))
