-- The pieces of a bound inside a proof file are cut from their bytes again.
use Rattle.std.proofs.Common.{◌≡◌, ℕ, ◌+◌, ◌-◌, ◌<◌, ◌≤◌, ◌^◌, min, Bool, true, false, cond, List, [], ◌∷◌}
use Rattle.std.proofs.Common.{◌++◌, map, length, slice_index_or, Some, refl, ap, sym, subst, ◌∙◌, arith}
use Rattle.std.specs.Prelude.{codes, ◌==◌, ◌&&◌, ◌||◌, nat_lt}
use Rattle.std.specs.List.{list_all}
use Rattle.std.specs.Fmt.{decimal}
use Rattle.std.specs.Char.{is_ascii_digit}
use Rattle.std.specs.Str.Parse.{IsNumeral, digits_value}
use Rattle.std.proofs.Math.Seq.{drop-append_seam}
use Rattle.std.proofs.lemmas.Fmt.{decimal_is_IsNumeral_wide}
use Rattle.std.proofs.lemmas.Bool.{and_parts}
use Rattle.std.proofs.lemmas.Bool.Decides.{nat_tests}
use Rattle.its_model.specs.model.Programs.{Name}
use Rattle.bound_text.specs.Pieces.{Piece, Variable, Number, Maximum, Open, Close, Times, Caret, Plus, Blank, Comma, Wrong}
use Rattle.bound_text.specs.Pieces.{spelled, bytes_of}
use Rattle.bound_text.specs.declared.piece.Piece.{Piece as BoundPiece}
use Rattle.bound_text.specs.declared.piece.Piece.TheVariants as bound
use Rattle.bound_text.specs.Printing.{piece_of}
use Rattle.bound_text.specs.Lexing.{lexeme_at, mark_at, number_at, word_at}
use Rattle.bound_text.proofs.KeptBounds.{KeptPiece}
use Rattle.bound_text.proofs.Numerals.{digits_pass, decimal_proper}
use Rattle.bound_text.proofs.TextLexing.{IsLong, Found, Closes}
use Rattle.text_grammar.specs.text_core.Names.{AreNames, IsName, begins_name, continues_name, is_same, position_of}
use Rattle.text_grammar.specs.text_core.Prefixes.{prefix, rest as the_rest}
use Rattle.text_grammar.specs.text_core.Bytes.{begins_with, has_leading_zero, value_up_to}
use Rattle.text_grammar.specs.text_core.Tokens.{Lexeme}
use Rattle.text_core.proofs.PrefixLaws.{Stops, prefix-append, rest-append, rest-stops}
use Rattle.text_core.proofs.PositionLaws.{listed_name, position_at}
use Rattle.cert_lexer.specs.declared.inner.Inner.{Inner}
use Rattle.cert_lexer.specs.declared.piece.Piece.TheVariants.{InBound}
use Rattle.cert_lexer.specs.declared.piece.Mode.TheVariants as mode
use Rattle.cert_lexer.specs.Lexing.{bound_lexeme, bound_piece, depth_behind, ends_before, ends_bound, inner_lexeme}
use Rattle.cert_lexer.specs.Lexing.{lexeme_in, plain_lexeme}
use Rattle.cert_lexer.specs.Bounds.{pieces_in}
use Rattle.cert_lexer.proofs.BoundCuts.{Goes, IsOpened, PartLevels, behind_bracket}

-- bytes that close a piece end a name and a number, and don't begin with an opening bracket
closes_name : (bytes : List ℕ) → Closes bytes → Stops continues_name bytes
closes_name [] h = tt
closes_name (b ∷ bytes) h = h.0

closes_number : (bytes : List ℕ) → Closes bytes → Stops is_ascii_digit bytes
closes_number [] h = tt
closes_number (b ∷ bytes) h = h.1

closes_call : (bytes : List ℕ) → Closes bytes → begins_with 40 bytes ≡ false
closes_call [] h = refl
closes_call (b ∷ bytes) h = h.2

-- the lexeme of a byte that begins no name
abbrev other_lexeme : ℕ → List ℕ → Lexeme Piece
other_lexeme c bytes =
    cond (is_ascii_digit c) (number_at (c ∷ prefix is_ascii_digit bytes)) (record { piece = mark_at c; len = 1 })

-- a name is cut from its bytes again
word_found : (names : List Name) (i : ℕ) (rest : List ℕ) → AreNames names → i < length names → Closes rest
    → Found names (Variable i) rest
word_found names i rest are h closed = go (slice_index_or names i []) (listed_name names i are h) refl
  where
    go : (w : Name) → IsName w → slice_index_or names i [] ≡ w → Found names (Variable i) rest
    go [] is e = absurd is
    go (c ∷ cs) is e = record {
      first = c;
      others = cs;
      split = e;
      lexeme =
          ap (λ (v : Bool). cond {A = Lexeme Piece} v (word_at names (c ∷ prefix continues_name (cs ++ rest))
          (the_rest continues_name (cs ++ rest))) (other_lexeme c (cs ++ rest))) is.0
          ∙ ap (λ (xs : List ℕ). word_at names (c ∷ xs) (the_rest continues_name (cs ++ rest)))
          (prefix-append continues_name cs rest is.1 (closes_name rest closed))
          ∙ ap (λ (xs : List ℕ). word_at names (c ∷ cs) xs)
          (rest-append continues_name cs rest is.1 ∙ rest-stops continues_name rest (closes_name rest closed))
          ∙ ap (λ (v : Bool). cond {A = Lexeme Piece} v (cond (is_same (c ∷ cs) (codes "max"))
          (record { piece = Maximum; len = length (c ∷ cs) + 1 }) (record { piece = Wrong; len = length (c ∷ cs) }))
          (record { piece = Variable (position_of (c ∷ cs) names); len = length (c ∷ cs) })) (closes_call rest closed)
          ∙ ap (λ (k : ℕ). record { piece = Variable k; len = length (c ∷ cs) })
          (ap (λ (w : Name). position_of w names) (sym e) ∙ position_at names i are h);
    }

-- a digit begins no name
digit_no_name : (c : ℕ) → is_ascii_digit c ≡ true → begins_name c ≡ false
digit_no_name c h = grind (arith, nat_tests)

-- a number is cut from its bytes again
number_found : (names : List Name) (n : ℕ) (rest : List ℕ) → n < 2 ^ 127 → Closes rest → Found names (Number n) rest
number_found names n rest small closed = go (decimal n) d.0.0 (digits_pass (decimal n) d.0.1) refl
  where
    d : IsNumeral 10 (decimal n) × (digits_value 10 (decimal n) ≡ n)
    d = decimal_is_IsNumeral_wide n (omega (arith, small))

    go : (ds : List ℕ) → 0 < length ds → list_all is_ascii_digit ds ≡ true → decimal n ≡ ds → Found names (Number n) rest
    go [] some all e = absurd (omega (arith, some))
    go (c ∷ cs) some all e =
        let t = and_parts (is_ascii_digit c) (list_all is_ascii_digit cs) all in
        let proper : has_leading_zero (c ∷ cs) ≡ false =
        ap has_leading_zero (sym e) ∙ decimal_proper n (omega (arith, small)) in
        let value : digits_value 10 (c ∷ cs) ≡ n = ap (digits_value 10) (sym e) ∙ d.1 in
        record {
          first = c;
          others = cs;
          split = e;
          lexeme =
              ap (λ (v : Bool). cond {A = Lexeme Piece} v (word_at names (c ∷ prefix continues_name (cs ++ rest))
              (the_rest continues_name (cs ++ rest))) (other_lexeme c (cs ++ rest))) (digit_no_name c t.0)
              ∙ ap (λ (v : Bool). cond {A = Lexeme Piece} v (number_at (c ∷ prefix is_ascii_digit (cs ++ rest)))
              (record { piece = mark_at c; len = 1 })) t.0
              ∙ ap (λ (xs : List ℕ). number_at (c ∷ xs))
              (prefix-append is_ascii_digit cs rest t.1 (closes_number rest closed))
              ∙ ap (λ (v : Bool). record { piece = cond v Wrong (Number (value_up_to (2 ^ 127) (c ∷ cs))); len = length (c ∷ cs) }) proper
              ∙ ap (λ (k : ℕ). record { piece = Number k; len = length (c ∷ cs) })
              (ap (λ (k : ℕ). min k (2 ^ 127)) value
              ∙ (let k : min n (2 ^ 127) ≡ n = omega (arith, small) in k));
        }

-- every piece that meets the conditions is cut from its bytes again
pub piece_found : (names : List Name) (q : Piece) (rest : List ℕ) → AreNames names → KeptPiece (length names) q
    → (IsLong q → Closes rest) → Found names q rest
piece_found names (Variable i) rest are kept closed = word_found names i rest are kept (closed tt)
piece_found names (Number n) rest are kept closed = number_found names n rest kept (closed tt)
piece_found names Maximum rest are kept closed = record { first = 109; others = codes "ax("; split = refl; lexeme = refl }
piece_found names Open rest are kept closed = record { first = 40; others = []; split = refl; lexeme = refl }
piece_found names Close rest are kept closed = record { first = 41; others = []; split = refl; lexeme = refl }
piece_found names Times rest are kept closed = record { first = 42; others = []; split = refl; lexeme = refl }
piece_found names Caret rest are kept closed = record { first = 94; others = []; split = refl; lexeme = refl }
piece_found names Plus rest are kept closed = record { first = 43; others = []; split = refl; lexeme = refl }
piece_found names Blank rest are kept closed = record { first = 32; others = []; split = refl; lexeme = refl }
piece_found names Comma rest are kept closed = record { first = 44; others = []; split = refl; lexeme = refl }
piece_found names Wrong rest are kept closed = absurd kept

-- pieces that can follow a name or a number close it, and so do the bytes after a bound if there are no such pieces
pub marked_close : (names : List Name) (qs : List Piece) (rest : List ℕ) → PartLevels qs → Closes rest
    → Closes (bytes_of names qs ++ rest)
marked_close names [] rest m c = c
marked_close names (Times ∷ qs) rest m c = (refl, refl, refl)
marked_close names (Caret ∷ qs) rest m c = (refl, refl, refl)
marked_close names (Blank ∷ qs) rest m c = (refl, refl, refl)
marked_close names (Comma ∷ qs) rest m c = (refl, refl, refl)
marked_close names (Close ∷ qs) rest m c = (refl, refl, refl)
marked_close names (Plus ∷ qs) rest m c = absurd m
marked_close names (Variable i ∷ qs) rest m c = absurd m
marked_close names (Number n ∷ qs) rest m c = absurd m
marked_close names (Maximum ∷ qs) rest m c = absurd m
marked_close names (Open ∷ qs) rest m c = absurd m
marked_close names (Wrong ∷ qs) rest m c = absurd m

-- a byte that begins a name ends no bound
letter_no_end : (depth b : ℕ) → begins_name b ≡ true → ends_bound depth b ≡ false
letter_no_end depth b h = go (b == 59) (b == 125) (b == 10) (b == 41) (other 59 refl) (other 125 refl) (other 10 refl) (other 41 refl)
  where
    other : (c : ℕ) → begins_name c ≡ false → (b == c) ≡ false
    other c k = pick (b == c) refl
      where
        pick : (v : Bool) → (b == c) ≡ v → v ≡ false
        pick false e = refl
        pick true e = let same : b ≡ c = grind (arith, nat_tests) in let n : begins_name b ≡ false = ap begins_name same ∙ k in cc

    go : (v w x y : Bool) → v ≡ false → w ≡ false → x ≡ false → y ≡ false
        → (v || w || x || (y && (depth == 0))) ≡ false
    go false false false false a c d e = refl
    go true w x y a c d e = cc
    go false true x y a c d e = cc
    go false false true y a c d e = cc
    go false false false true a c d e = cc

digit_no_end : (depth b : ℕ) → is_ascii_digit b ≡ true → ends_bound depth b ≡ false
digit_no_end depth b h = go (b == 59) (b == 125) (b == 10) (b == 41) (other 59 refl) (other 125 refl) (other 10 refl) (other 41 refl)
  where
    other : (c : ℕ) → is_ascii_digit c ≡ false → (b == c) ≡ false
    other c k = pick (b == c) refl
      where
        pick : (v : Bool) → (b == c) ≡ v → v ≡ false
        pick false e = refl
        pick true e = let same : b ≡ c = grind (arith, nat_tests) in let n : is_ascii_digit b ≡ false = ap is_ascii_digit same ∙ k in cc

    go : (v w x y : Bool) → v ≡ false → w ≡ false → x ≡ false → y ≡ false
        → (v || w || x || (y && (depth == 0))) ≡ false
    go false false false false a c d e = refl
    go true w x y a c d e = cc
    go false true x y a c d e = cc
    go false false true y a c d e = cc
    go false false false true a c d e = cc

pub first_no_end : (names : List Name) (depth : ℕ) (q : Piece) (first : ℕ) (others : List ℕ) → AreNames names
    → KeptPiece (length names) q → IsOpened depth q → spelled names q ≡ first ∷ others → ends_bound depth first ≡ false
first_no_end names depth (Variable i) first others are kept opened e = go (slice_index_or names i []) (listed_name names i are kept) e
  where
    go : (w : Name) → IsName w → w ≡ first ∷ others → ends_bound depth first ≡ false
    go [] is e = absurd is
    go (c ∷ cs) is e = let same : c ≡ first = cc in subst (λ (k : ℕ). ends_bound depth k ≡ false) same (letter_no_end depth c is.0)
first_no_end names depth (Number n) first others are kept opened e =
    let d = decimal_is_IsNumeral_wide n (omega (arith, kept)) in
    go (decimal n) d.0.0 (digits_pass (decimal n) d.0.1) e
  where
    go : (ds : List ℕ) → 0 < length ds → list_all is_ascii_digit ds ≡ true → ds ≡ first ∷ others → ends_bound depth first ≡ false
    go [] some all e = absurd (omega (arith, some))
    go (c ∷ cs) some all e =
        let t = and_parts (is_ascii_digit c) (list_all is_ascii_digit cs) all in
        let same : c ≡ first = cc in subst (λ (k : ℕ). ends_bound depth k ≡ false) same (digit_no_end depth c t.0)
first_no_end names depth Maximum first others are kept opened e = let same : 109 ≡ first = cc in subst (λ (k : ℕ). ends_bound depth k ≡ false) same refl
first_no_end names depth Open first others are kept opened e = let same : 40 ≡ first = cc in subst (λ (k : ℕ). ends_bound depth k ≡ false) same refl
first_no_end names depth Close first others are kept opened e =
    let same : 41 ≡ first = cc in
    let some : (depth == 0) ≡ false = grind (arith, nat_tests) in
    subst (λ (k : ℕ). ends_bound depth k ≡ false) same (ap (λ (v : Bool). false || false || false || (true && v)) some)
first_no_end names depth Times first others are kept opened e = let same : 42 ≡ first = cc in subst (λ (k : ℕ). ends_bound depth k ≡ false) same refl
first_no_end names depth Caret first others are kept opened e = let same : 94 ≡ first = cc in subst (λ (k : ℕ). ends_bound depth k ≡ false) same refl
first_no_end names depth Plus first others are kept opened e = let same : 43 ≡ first = cc in subst (λ (k : ℕ). ends_bound depth k ≡ false) same refl
first_no_end names depth Blank first others are kept opened e = let same : 32 ≡ first = cc in subst (λ (k : ℕ). ends_bound depth k ≡ false) same refl
first_no_end names depth Comma first others are kept opened e = let same : 44 ≡ first = cc in subst (λ (k : ℕ). ends_bound depth k ≡ false) same refl
first_no_end names depth Wrong first others are kept opened e = absurd kept

-- the piece of the code is the piece, and the number of open brackets after it is the same
pub piece_same : (n : ℕ) (q : Piece) → n < 2 ^ 32 → KeptPiece n q → piece_of (bound_piece n 0 q) ≡ q
piece_same n (Variable i) small kept =
    let listed : nat_lt i n ≡ true = grind (arith, nat_tests) in
    let e : min i (2 ^ 32 - 1) ≡ i = omega (arith, small, kept) in
    ap (λ (v : Bool). Variable (min (cond v i (i + 0)) (2 ^ 32 - 1))) listed ∙ ap (λ (k : ℕ). Variable k) e
piece_same n (Number k) small kept = refl
piece_same n Maximum small kept = refl
piece_same n Open small kept = refl
piece_same n Close small kept = refl
piece_same n Times small kept = refl
piece_same n Caret small kept = refl
piece_same n Plus small kept = refl
piece_same n Blank small kept = refl
piece_same n Comma small kept = refl
piece_same n Wrong small kept = refl

-- the piece of the code doesn't depend on the number of pieces before it
before_free : (n before : ℕ) (q : Piece) → KeptPiece n q → bound_piece n before q ≡ bound_piece n 0 q
before_free n before (Variable i) kept =
    let listed : nat_lt i n ≡ true = grind (arith, nat_tests) in
    ap (λ (v : Bool). bound.Variable (min (cond v i (i + before)) (2 ^ 32 - 1))) listed
    ∙ sym (ap (λ (v : Bool). bound.Variable (min (cond v i (i + 0)) (2 ^ 32 - 1))) listed)
before_free n before (Number k) kept = refl
before_free n before Maximum kept = refl
before_free n before Open kept = refl
before_free n before Close kept = refl
before_free n before Times kept = refl
before_free n before Caret kept = refl
before_free n before Plus kept = refl
before_free n before Blank kept = refl
before_free n before Comma kept = refl
before_free n before Wrong kept = refl

pub depth_same : (n depth : ℕ) (q : Piece) → depth ≤ 200
    → depth_behind depth (bound_piece n 0 q) ≡ behind_bracket depth q
depth_same n depth Maximum l = omega (arith, l)
depth_same n depth Open l = omega (arith, l)
depth_same n depth Close l = refl
depth_same n depth (Variable i) l = refl
depth_same n depth (Number k) l = refl
depth_same n depth Times l = refl
depth_same n depth Caret l = refl
depth_same n depth Plus l = refl
depth_same n depth Blank l = refl
depth_same n depth Comma l = refl
depth_same n depth Wrong l = refl

-- the piece and its length, as the code stores them
abbrev pub inner_of : List Name → Piece → Inner
inner_of names q = record { piece = bound_piece (length names) 0 q; len = length (spelled names q) }

abbrev pub inners : List Name → List Piece → List Inner
inners names qs = map (inner_of names) qs

-- the stored pieces are these pieces
pub inners_are : (names : List Name) (depth : ℕ) (qs : List Piece) → length names < 2 ^ 32 → Goes (length names) depth qs
    → pieces_in (inners names qs) ≡ qs
inners_are names depth [] small goes = refl
inners_are names depth (q ∷ qs) small goes =
    ap (λ (r : Piece). r ∷ pieces_in (inners names qs)) (piece_same (length names) q small goes.0)
    ∙ ap (λ (rs : List Piece). q ∷ rs) (inners_are names (behind_bracket depth q) qs small goes.4)

-- whether a bound ends before these pieces, if the bytes after them end it
abbrev pub is_last : List Piece → Bool
is_last [] = true
is_last (q ∷ qs) = false

pub ends_so : (names : List Name) (depth : ℕ) (qs : List Piece) (b : ℕ) (others : List ℕ) → AreNames names
    → Goes (length names) depth qs → ends_bound 0 b ≡ true → Closes (b ∷ others)
    → ends_before depth (bytes_of names qs ++ b ∷ others) ≡ is_last qs
ends_so names depth [] b others are goes ends closed = ap (λ (k : ℕ). ends_bound k b) goes ∙ ends
ends_so names depth (q ∷ qs) b others are goes ends closed =
    let rest = bytes_of names qs ++ b ∷ others in
    let f = piece_found names q rest are goes.0 (λ long. marked_close names qs (b ∷ others) (goes.1 long) closed) in
    let e : (spelled names q ++ bytes_of names qs) ++ b ∷ others ≡ f.first ∷ ((f.others ++ bytes_of names qs) ++ b ∷ others) =
    ap (λ (xs : List ℕ). (xs ++ bytes_of names qs) ++ b ∷ others) f.split in
    ap (ends_before depth) e ∙ first_no_end names depth q f.first f.others are goes.0 goes.2 f.split

-- a piece of a bound is cut from the bytes of a proof file
pub inner_cut : (symbols names : List Name) (depth before : ℕ) (q : Piece) (rest : List ℕ) (f : Found names q rest)
    → KeptPiece (length names) q → ends_bound depth f.first ≡ false
    → lexeme_in symbols names (mode.InBound depth before) f.first (f.others ++ rest)
    ≡ record {
      piece = Some (InBound (bound_piece (length names) 0 q) (length (f.first ∷ f.others))
          (ends_before (depth_behind depth (bound_piece (length names) 0 q)) rest));
      len = length (f.first ∷ f.others);
    }
inner_cut symbols names depth before q rest f kept goes =
    let n = length names in
    ap (λ (v : Bool). cond v (plain_lexeme symbols f.first (f.others ++ rest))
    (bound_lexeme n depth before (f.first ∷ (f.others ++ rest)) (lexeme_at names f.first (f.others ++ rest)))) goes
    ∙ ap (bound_lexeme n depth before (f.first ∷ (f.others ++ rest))) f.lexeme
    ∙ ap (λ (bs : List ℕ). inner_lexeme depth bs (bound_piece n before q) (length (f.first ∷ f.others)))
    (drop-append_seam (f.first ∷ f.others) rest)
    ∙ ap (λ (b : BoundPiece). inner_lexeme depth rest b (length (f.first ∷ f.others))) (before_free n before q kept)
