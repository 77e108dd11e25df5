-- How a piece changes the stored levels.
use Rattle.std.proofs.Common.{◌≡◌, ℕ, zero, suc, ◌+◌, ◌^◌, ◌-◌, ◌<◌, ◌≤◌, min, Bool, true, false, cond, List, [], ◌∷◌, ◌++◌}
use Rattle.std.proofs.Common.{length, map, Option, refl, ap, sym, subst, ◌∙◌, arith, length-append}
use Rattle.std.specs.Prelude.{◌||◌, ◌&&◌}
use Rattle.bound_text.specs.ParserStates.{ParserState, Outer, Whole, Inside}
use Rattle.bound_text.specs.Pieces.{Piece}
use Rattle.bound_text.specs.Inside.{Marks}
use Rattle.text_grammar.specs.text_core.Readers.{onto}
use Rattle.cert_lexer.specs.declared.levels.OpenPart.{OpenPart}
use Rattle.cert_lexer.specs.declared.levels.Levels.{Levels}
use Rattle.cert_lexer.specs.declared.outline.Change.{Change}
use Rattle.cert_lexer.specs.declared.outline.Change.TheVariants as change
use Rattle.cert_lexer.specs.declared.outline.Frame.{Frame}
use Rattle.cert_lexer.specs.declared.outline.Innermost.{Innermost}
use Rattle.cert_lexer.specs.declared.outline.Outline.{Outline}
use Rattle.cert_lexer.specs.Levels.{above_in, open_parts_after, open_parts_of, open_parts_around, capped, first_open_part, has_deep}
use Rattle.cert_lexer.specs.Bounds.{is_deep}
use Rattle.cert_lexer.specs.Levels.{marks_taken, mark_of, opens, raised_from, raises, shallow}
use Rattle.cert_lexer.specs.Outlines.{frames_of}
use Rattle.cert_lexer.specs.Representation.{AreBehind, Held, Holds, ShowsLevels, ShowsTaken, open_parts_in, capped_open_part, frames_in}
use Rattle.cert_lexer.proofs.DeepLaws.{either_length}
use Rattle.cert_lexer.proofs.ShallowLaws.{from_has, from_shallow, held_skip, or_true}

-- the innermost unfinished bound as the code stores it is the capped one
pub first_capped : (bs : List OpenPart) → first_open_part (map capped_open_part bs) ≡ capped_open_part (first_open_part bs)
first_capped [] = refl
first_capped (b ∷ bs) = refl

-- a piece adds one mark
pub taken_length : (bs : List OpenPart) (round : Option Frame) (i : Innermost) (piece : Piece) (marks : Marks)
    → length (marks_taken bs round i piece marks) ≡ suc (length marks)
taken_length bs round i piece marks =
    let old = cond (raises round i piece) (raised_from (first_open_part bs).start marks) marks in
    let a = length-append old (mark_of (first_open_part bs).above round i piece ∷ []) in
    let b = either_length (raises round i piece) (first_open_part bs).start marks in
    omega (arith, a, b)

-- the number of pieces after one more, as the code counts it
pub taken_count : (count next : ℕ) (bs : List OpenPart) (round : Option Frame) (i : Innermost) (piece : Piece) (marks : Marks)
    → count ≡ capped (length marks) → next ≡ min (count + 1) (2 ^ 64 - 1) → next ≡ capped (length (marks_taken bs round i piece marks))
taken_count count next bs round i piece marks c n = omega (arith, c, n, taken_length bs round i piece marks)

-- there are at least as many marks as marks before the first part that is too deep
shallow_short : (ms : Marks) → length (shallow ms) ≤ length ms
shallow_short [] = omega arith
shallow_short (m ∷ ms) = go (is_deep m) (shallow_short ms)
  where
    go : (v : Bool) → length (shallow ms) ≤ length ms → length (cond v [] (m ∷ shallow ms)) ≤ suc (length ms)
    go true ih = omega arith
    go false ih = omega (arith, ih)

-- no mark before the first part that is too deep is too deep
shallow_again : (ms : Marks) → shallow (shallow ms) ≡ shallow ms
shallow_again [] = refl
shallow_again (m ∷ ms) = go (is_deep m) refl (shallow_again ms)
  where
    go : (v : Bool) → is_deep m ≡ v → shallow (shallow ms) ≡ shallow ms
        → shallow (cond v [] (m ∷ shallow ms)) ≡ cond v [] (m ∷ shallow ms)
    go true e ih = refl
    go false e ih = ap (λ (w : Bool). cond w [] (m ∷ shallow (shallow ms))) e ∙ ap (λ (xs : Marks). m ∷ xs) ih

-- raising marks from past the last one changes nothing
raised_past : (n : ℕ) (ms : Marks) → length ms ≤ n → raised_from n ms ≡ ms
raised_past zero [] l = refl
raised_past zero (m ∷ ms) l = absurd (omega (arith, l))
raised_past (suc n) [] l = refl
raised_past (suc n) (m ∷ ms) l = ap (λ (xs : Marks). m ∷ xs) (raised_past n ms (omega (arith, l)))

-- raising marks after the first part that is too deep, or adding one there, changes nothing that is stored
held_behind : (kept marks : Marks) (m : Option ℕ) (deep v : Bool) (start : ℕ) → Held kept deep marks → has_deep marks ≡ true
    → length (shallow marks) ≤ start → Held kept deep (cond v (raised_from start marks) marks ++ m ∷ [])
held_behind kept marks m deep v start h d l =
    held_skip kept (cond v (raised_from start marks) marks) m deep (h.deep ∙ d) (go v)
  where
    go : (v : Bool) → Held kept deep (cond v (raised_from start marks) marks)
    go false = h
    go true = record {
      kept = h.kept ∙ sym (from_shallow start marks ∙ ap shallow (raised_past start (shallow marks) l) ∙ shallow_again marks);
      deep = h.deep ∙ d ∙ sym (from_has start marks ∙ ap (λ (w : Bool). has_deep (raised_from start (shallow marks)) || w) d
          ∙ or_true (has_deep (raised_from start (shallow marks))));
    }

-- whether bounds begin after the first part that is too deep depends only on the marks before it
same_behind : (marks next : Marks) (bs : List OpenPart) → shallow next ≡ shallow marks → has_deep next ≡ has_deep marks
    → AreBehind marks bs → AreBehind next bs
same_behind marks next [] e d h = tt
same_behind marks next (b ∷ bs) e d h =
    let size = ap length e in let l = h.0 in (omega (arith, size, l), d ∙ h.1, same_behind marks next bs e d h.2)

-- bounds that begin after the first part that is too deep do so after a change of the open brackets
behind_on : (c : Change) (round : Option Frame) (i : Innermost) (marks next : Marks) (b : OpenPart) (bs : List OpenPart)
    → shallow next ≡ shallow marks → has_deep next ≡ has_deep marks → AreBehind marks (b ∷ bs)
    → AreBehind next (open_parts_after c (length next) round i (b ∷ bs))
behind_on change.Keep round i marks next b bs e d h = same_behind marks next (b ∷ bs) e d h
behind_on change.Term round i marks next b bs e d h =
    (shallow_short next, d ∙ h.1, same_behind marks next bs e d h.2)
behind_on (change.Open frame) round i marks next b bs e d h =
    (shallow_short next, d ∙ h.1, same_behind marks next (b ∷ bs) e d h)
behind_on change.Close round i marks next b bs e d h = same_behind marks next bs e d h.2
behind_on change.Argue round i marks next b bs e d h =
    (shallow_short next, d ∙ h.1, same_behind marks next bs e d h.2)

-- a change of the open brackets concerns the innermost unfinished bounds alone
open_parts_more : (c : Change) (at : ℕ) (round : Option Frame) (i : Innermost) (b : OpenPart) (bs outer : List OpenPart)
    → open_parts_after c at round i (b ∷ bs) ++ outer ≡ open_parts_after c at round i (b ∷ (bs ++ outer))
open_parts_more change.Keep at round i b bs outer = refl
open_parts_more change.Term at round i b bs outer = refl
open_parts_more (change.Open frame) at round i b bs outer = refl
open_parts_more change.Close at round i b bs outer = refl
open_parts_more change.Argue at round i b bs outer = refl

-- putting a list in reverse before another adds the lengths
length_onto : {X : Type 0} (xs ys : List X) → length (onto xs ys) ≡ length xs + length ys
length_onto [] ys = omega arith
length_onto (x ∷ xs) ys = let ih = length_onto xs (x ∷ ys) in omega (arith, ih)

length_of_open_parts : (bs : List OpenPart) → length (map capped_open_part bs) ≡ length bs
length_of_open_parts [] = refl
length_of_open_parts (b ∷ bs) = ap suc (length_of_open_parts bs)

-- the code stores as many unfinished bounds as are represented
kept_length : (l : Levels) (outer : List OpenPart) → open_parts_in l ≡ map capped_open_part outer → length l.begun.items ≡ length outer
kept_length l outer e =
    let a = length_onto l.begun.items [] in let b = ap length e in let c = length_of_open_parts outer in omega (arith, a, b, c)

-- if as many bounds are stored as there are, all are stored
pub all_kept : (l : Levels) (marks : Marks) (bs : List OpenPart) (n : ℕ) → ShowsLevels l marks bs → length bs ≡ suc n
    → n < length l.begun.items → open_parts_in l ≡ map capped_open_part bs
all_kept l marks bs n h size more = go h.inner h.all
  where
    go : (inner : List OpenPart) → inner ++ h.outer ≡ bs → open_parts_in l ≡ map capped_open_part bs
    go [] e = h.begun ∙ ap (map capped_open_part) e
    go (b ∷ inner) e =
        let k = kept_length l h.outer h.begun in
        let s = ap length e in
        let t = length-append inner h.outer in
        absurd (omega (arith, k, s, t, size, more))

-- a piece inside an unfinished bound that isn't stored changes nothing that is stored, except for the count
pub taken_behind : (l : Levels) (count : ℕ) (round : Option Frame) (i : Innermost) (piece : Piece) (c : Change) (marks : Marks)
    (bs : List OpenPart) (n : ℕ) → ShowsLevels l marks bs → length bs ≡ suc n → length l.begun.items ≤ n
    → count ≡ min (l.count + 1) (2 ^ 64 - 1) → ShowsTaken (record l { count = count }) round i piece c marks bs
taken_behind l count round i piece c marks bs n h size few counted = go h.inner h.all h.behind
  where
    go : (inner : List OpenPart) → inner ++ h.outer ≡ bs → AreBehind marks inner
        → ShowsTaken (record l { count = count }) round i piece c marks bs
    go [] e behind =
        let k = kept_length l h.outer h.begun in let s = ap length e in absurd (omega (arith, k, s, size, few))
    go (b ∷ inner) e behind =
        let all = b ∷ (inner ++ h.outer) in
        let next = marks_taken all round i piece marks in
        let held = held_behind l.marked.levels.items marks (mark_of b.above round i piece) l.marked.deep (raises round i piece)
        b.start h.held behind.1 behind.0 in
        subst (λ (ds : List OpenPart). ShowsTaken (record l { count = count }) round i piece c marks ds) e (record {
          held = held;
          count = taken_count l.count count all round i piece marks h.count counted;
          inner = open_parts_after c (length next) round i (b ∷ inner);
          outer = h.outer;
          all = open_parts_more c (length next) round i b inner h.outer;
          begun = h.begun;
          behind = behind_on c round i marks next b inner (sym held.kept ∙ h.held.kept) (sym held.deep ∙ h.held.deep) behind;
        })

-- if the conjunction is true, so are both tests
pub both_hold : (a b : Bool) → a && b ≡ true → (a ≡ true) × (b ≡ true)
both_hold true b h = (refl, h)
both_hold false b h = cc

-- a bracket that opens after a part that is too deep changes nothing that is stored
pub taken_open : (l : Levels) (round : Option Frame) (i : Innermost) (c : Change) (next : Marks) (bs : List OpenPart)
    → opens c ≡ true → l.marked.deep ≡ true → Holds l.marked next → l.count ≡ capped (length next)
    → open_parts_in l ≡ map capped_open_part bs → ShowsLevels l next (open_parts_after c (length next) round i bs)
taken_open l round i change.Keep next bs o d held count begun = cc
taken_open l round i change.Term next bs o d held count begun = cc
taken_open l round i (change.Open frame) next bs o d held count begun = record {
  held = held;
  count = count;
  inner = record { above = above_in frame.opening (first_open_part bs).above round i; start = length next } ∷ [];
  outer = bs;
  all = refl;
  begun = begun;
  behind = (shallow_short next, sym held.deep ∙ d, tt);
}
taken_open l round i change.Close next bs o d held count begun = cc
taken_open l round i change.Argue next bs o d held count begun = cc

-- there is one more unfinished bound than there are open brackets
round_length : (outer : Outer) → length (open_parts_around outer) ≡ length (frames_of outer)
round_length Whole = refl
round_length (Inside bracket ts fs outer) = ap suc (round_length outer)

pub open_parts_length : (f : ParserState) (o : Outline) → frames_in o ≡ frames_of f.outer → length (open_parts_of f) ≡ suc (length o.frames.items)
open_parts_length f o e =
    let a = round_length f.outer in let b = ap length e in let c = length_onto o.frames.items [] in omega (arith, a, b, c)
