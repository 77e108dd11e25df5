-- The bytes of a text's pieces are the text, and the pieces cut from the bytes of pieces are those pieces.
use Rattle.std.proofs.Common.{◌≡◌, ℕ, zero, suc, ◌+◌, ◌-◌, ◌^◌, ◌<◌, ◌≤◌, nat_eq, Bool, true, false, cond, List, []}
use Rattle.std.proofs.Common.{◌∷◌, ◌++◌, length, length-append, min, drop, slice_index_or, Option, Some, None, refl}
use Rattle.std.proofs.Common.{sym, ap, subst, ◌∙◌, arith}
use Rattle.std.specs.Prelude.{codes, ⊤}
use Rattle.std.specs.List.{list_all}
use Rattle.std.specs.Fmt.{decimal}
use Rattle.std.specs.Char.{is_ascii_digit}
use Rattle.std.specs.Str.Parse.{IsNumeral, digits_value}
use Rattle.std.proofs.Math.Seq.{drop-append_seam}
use Rattle.std.proofs.lemmas.Fmt.{decimal_is_IsNumeral_wide}
use Rattle.std.proofs.lemmas.Bool.Decides.{nat_tests}
use Rattle.text_core.specs.model.Programs.{Name}
use Rattle.text_core.specs.Names.{begins_name, continues_name, is_same, position_of, IsName, AreNames}
use Rattle.bound_text.specs.Pieces.{Piece, Variable, Number, Maximum, Open, Close, Times, Caret, Plus, Blank, Comma}
use Rattle.bound_text.specs.Pieces.{Wrong, spelled, bytes_of}
use Rattle.text_core.specs.Prefixes.{prefix, rest as the_rest}
use Rattle.text_core.specs.Bytes.{begins_with, has_leading_zero, value_up_to}
use Rattle.text_core.specs.Tokens.{Lexeme, LexesWithin, each_piece, pieces, tokens_from}
use Rattle.text_core.proofs.Lexing.{tokens-first, pieces_at}
use Rattle.text_core.proofs.Walks.{walk-none}
use Rattle.bound_text.specs.Lexing.{lexeme_with, word_at, number_at, mark_at, lexeme_at, tokens}
use Rattle.bound_text.specs.ParserStates.{ParserState, Position, ItemRead, IsWellFormed}
use Rattle.bound_text.specs.Steps.{step, step_at, follow_item, walk}
use Rattle.bound_text.proofs.SoundnessLaws.{step_sound}
use Rattle.bound_text.proofs.StepCases.{Leads, of_variable, of_number, of_maximum, of_sum, of_run, of_power}
use Rattle.bound_text.proofs.StepCases.{of_power_of, of_exponent, of_times, of_base, of_caret, of_blank, of_comma}
use Rattle.bound_text.proofs.StepCases.{of_close, of_plus, of_term, of_argument, step_leads}
use Rattle.std.proofs.lemmas.Bool.{and_parts}
use Rattle.text_core.proofs.PrefixLaws.{prefix-rest, all_prefix, Stops, rest-append, rest-stops, prefix-append}
use Rattle.text_core.proofs.NameLaws.{same_equal}
use Rattle.text_core.proofs.PositionLaws.{at_position, listed_name, position_at}
use Rattle.bound_text.proofs.Numerals.{numeral_of, digits_pass, decimal_proper}
use Rattle.bound_text.proofs.KeptBounds.{KeptPiece, AllPiecesKept}

-- each lexeme has at least one byte
lexeme_some : (names : List Name) (b : ℕ) (bytes : List ℕ) → 0 < (lexeme_at names b bytes).len
lexeme_some names b bytes = go (begins_name b) (is_ascii_digit b)
  where
    word : (v u : Bool) (name : Name) → 0 < length name → 0 < (cond {A = Lexeme Piece} v (cond u (lexeme_with Maximum (length name + 1)) (record { piece = Wrong; len = length name })) (record { piece = Variable (position_of name names); len = length name })).len
    word true true name h = omega arith
    word true false name h = h
    word false u name h = h

    go : (v w : Bool) → 0 < (cond {A = Lexeme Piece} v (word_at names (b ∷ prefix continues_name bytes) (the_rest continues_name bytes)) (cond w (number_at (b ∷ prefix is_ascii_digit bytes)) (record { piece = mark_at b; len = 1 }))).len
    go true w = word (begins_with 40 (the_rest continues_name bytes)) (is_same (b ∷ prefix continues_name bytes) (codes "max")) (b ∷ prefix continues_name bytes) (omega arith)
    go false true = omega arith
    go false false = omega arith

-- a lexeme has no more bytes than the text
lexeme_few : (names : List Name) (b : ℕ) (bytes : List ℕ) → (lexeme_at names b bytes).len ≤ length (b ∷ bytes)
lexeme_few names b bytes = go (begins_name b) (is_ascii_digit b)
  where
    parts : (test : ℕ → Bool) → length (prefix test bytes) + length (the_rest test bytes) ≡ length bytes
    parts test = sym (length-append (prefix test bytes) (the_rest test bytes)) ∙ ap length (prefix-rest test bytes)

    bracket : (xs : List ℕ) → begins_with 40 xs ≡ true → 0 < length xs
    bracket [] h = cc
    bracket (x ∷ xs) h = omega arith

    word : (v u : Bool) → begins_with 40 (the_rest continues_name bytes) ≡ v
        → (cond {A = Lexeme Piece} v (cond u (lexeme_with Maximum (length (b ∷ prefix continues_name bytes) + 1)) (lexeme_with Wrong (length (b ∷ prefix continues_name bytes)))) (lexeme_with (Variable (position_of (b ∷ prefix continues_name bytes) names)) (length (b ∷ prefix continues_name bytes)))).len
        ≤ length (b ∷ bytes)
    word true true h = omega (arith, parts continues_name, bracket (the_rest continues_name bytes) h)
    word true false h = omega (arith, parts continues_name)
    word false u h = omega (arith, parts continues_name)

    go : (v w : Bool) → (cond {A = Lexeme Piece} v (word_at names (b ∷ prefix continues_name bytes) (the_rest continues_name bytes)) (cond w (number_at (b ∷ prefix is_ascii_digit bytes)) (lexeme_with (mark_at b) 1))).len ≤ length (b ∷ bytes)
    go true w = word (begins_with 40 (the_rest continues_name bytes)) (is_same (b ∷ prefix continues_name bytes) (codes "max")) refl
    go false true = omega (arith, parts is_ascii_digit)
    go false false = omega arith

-- the pieces of a text are in order of position
pub lexes_within : (names : List Name) → LexesWithin (each_piece (lexeme_at names))
lexes_within names = record { each = λ b bytes. (lexeme_some names b bytes, lexeme_few names b bytes) }

-- the text begins with the bytes of the lexeme's piece
pub record Spelled (names : List Name) (text : List ℕ) (l : Lexeme Piece) : Type 0 where
  pub rest : List ℕ
  pub split : text ≡ spelled names l.piece ++ rest
  pub len : length (spelled names l.piece) ≡ l.len

-- bytes that begin with c are c and other bytes
begins_split : (c : ℕ) (bytes : List ℕ) → begins_with c bytes ≡ true → (rest : List ℕ) × (bytes ≡ c ∷ rest)
begins_split c [] h = cc
begins_split c (b ∷ bytes) h = (bytes, (let e : b ≡ c = grind (arith, nat_tests) in ap (λ (x : ℕ). x ∷ bytes) e))

-- a name that meets the conditions is spelled by its bytes
word_spelled : (names : List Name) (w rest : List ℕ) → KeptPiece (length names) (word_at names w rest).piece → Spelled names (w ++ rest) (word_at names w rest)
word_spelled names w rest kept = go (begins_with 40 rest) (is_same w (codes "max")) refl refl kept
  where
    go : (v u : Bool) → begins_with 40 rest ≡ v → is_same w (codes "max") ≡ u
        → KeptPiece (length names) (cond {A = Lexeme Piece} v (cond u (record { piece = Maximum; len = length w + 1 }) (record { piece = Wrong; len = length w })) (record { piece = Variable (position_of w names); len = length w })).piece
        → Spelled names (w ++ rest) (cond {A = Lexeme Piece} v (cond u (record { piece = Maximum; len = length w + 1 }) (record { piece = Wrong; len = length w })) (record { piece = Variable (position_of w names); len = length w }))
    go true true e f kept =
        let r = begins_split 40 rest e in
        let m : w ≡ codes "max" = same_equal w (codes "max") f in
        record { rest = r.0; split = ap (λ (xs : List ℕ). xs ++ rest) m ∙ ap (λ (xs : List ℕ). codes "max" ++ xs) r.1; len = (let k : 4 ≡ length (codes "max") + 1 = refl in k ∙ ap (λ (xs : List ℕ). length xs + 1) (sym m)) }
    go true false e f kept = absurd kept
    go false u e f kept = let p = at_position names w kept in record { rest = rest; split = ap (λ (xs : List ℕ). xs ++ rest) (sym p); len = ap length p }

-- a number that meets the conditions is spelled by its bytes
number_spelled : (names : List Name) (c : ℕ) (ds rest : List ℕ) → is_ascii_digit c ≡ true → list_all is_ascii_digit ds ≡ true → KeptPiece (length names) (number_at (c ∷ ds)).piece → Spelled names ((c ∷ ds) ++ rest) (number_at (c ∷ ds))
number_spelled names c ds rest d all kept = go (has_leading_zero (c ∷ ds)) refl kept
  where
    go : (v : Bool) → has_leading_zero (c ∷ ds) ≡ v → KeptPiece (length names) (cond v Wrong (Number (value_up_to (2 ^ 127) (c ∷ ds))))
        → Spelled names ((c ∷ ds) ++ rest) (record { piece = cond v Wrong (Number (value_up_to (2 ^ 127) (c ∷ ds))); len = length (c ∷ ds) })
    go true e kept = absurd kept
    go false e kept =
        let small : digits_value 10 (c ∷ ds) < 2 ^ 127 = omega (arith, kept) in
        let same : value_up_to (2 ^ 127) (c ∷ ds) ≡ digits_value 10 (c ∷ ds) = omega (arith, small) in
        let n : decimal (value_up_to (2 ^ 127) (c ∷ ds)) ≡ c ∷ ds = ap decimal same ∙ numeral_of c ds d all e (omega (arith, small)) in
        record { rest = rest; split = ap (λ (xs : List ℕ). xs ++ rest) (sym n); len = ap length n }

-- any other piece that meets the conditions is spelled by its bytes
mark_spelled : (names : List Name) (b : ℕ) (rest : List ℕ) → KeptPiece (length names) (mark_at b) → Spelled names (b ∷ rest) (record { piece = mark_at b; len = 1 })
mark_spelled names b rest kept = go (nat_eq b 40) (nat_eq b 41) (nat_eq b 42) (nat_eq b 94) (nat_eq b 43) (nat_eq b 32) (nat_eq b 44) refl refl refl refl refl refl refl kept
  where
    same : (k : ℕ) → nat_eq b k ≡ true → b ∷ rest ≡ k ∷ rest
    same k h = let e : b ≡ k = grind (arith, nat_tests) in ap (λ (x : ℕ). x ∷ rest) e

    go : (a c d e f g h : Bool) → nat_eq b 40 ≡ a → nat_eq b 41 ≡ c → nat_eq b 42 ≡ d → nat_eq b 94 ≡ e → nat_eq b 43 ≡ f → nat_eq b 32 ≡ g → nat_eq b 44 ≡ h
        → KeptPiece (length names) (cond a Open (cond c Close (cond d Times (cond e Caret (cond f Plus (cond g Blank (cond h Comma Wrong)))))))
        → Spelled names (b ∷ rest) (record { piece = cond a Open (cond c Close (cond d Times (cond e Caret (cond f Plus (cond g Blank (cond h Comma Wrong)))))); len = 1 })
    go true c d e f g h p q r s t u v kept = record { rest = rest; split = same 40 p; len = refl }
    go false true d e f g h p q r s t u v kept = record { rest = rest; split = same 41 q; len = refl }
    go false false true e f g h p q r s t u v kept = record { rest = rest; split = same 42 r; len = refl }
    go false false false true f g h p q r s t u v kept = record { rest = rest; split = same 94 s; len = refl }
    go false false false false true g h p q r s t u v kept = record { rest = rest; split = same 43 t; len = refl }
    go false false false false false true h p q r s t u v kept = record { rest = rest; split = same 32 u; len = refl }
    go false false false false false false true p q r s t u v kept = record { rest = rest; split = same 44 v; len = refl }
    go false false false false false false false p q r s t u v kept = absurd kept

-- a lexeme whose piece meets the conditions is spelled by the bytes that it was cut from
lexeme_spelled : (names : List Name) (b : ℕ) (bytes : List ℕ) → KeptPiece (length names) (lexeme_at names b bytes).piece → Spelled names (b ∷ bytes) (lexeme_at names b bytes)
lexeme_spelled names b bytes kept = go (begins_name b) (is_ascii_digit b) refl kept
  where
    go : (v w : Bool) → is_ascii_digit b ≡ w
        → KeptPiece (length names) (cond {A = Lexeme Piece} v (word_at names (b ∷ prefix continues_name bytes) (the_rest continues_name bytes)) (cond w (number_at (b ∷ prefix is_ascii_digit bytes)) (record { piece = mark_at b; len = 1 }))).piece
        → Spelled names (b ∷ bytes) (cond {A = Lexeme Piece} v (word_at names (b ∷ prefix continues_name bytes) (the_rest continues_name bytes)) (cond w (number_at (b ∷ prefix is_ascii_digit bytes)) (record { piece = mark_at b; len = 1 })))
    go true w f kept =
        subst (λ (xs : List ℕ). Spelled names (b ∷ xs) (word_at names (b ∷ prefix continues_name bytes) (the_rest continues_name bytes))) (prefix-rest continues_name bytes)
        (word_spelled names (b ∷ prefix continues_name bytes) (the_rest continues_name bytes) kept)
    go false true f kept =
        subst (λ (xs : List ℕ). Spelled names (b ∷ xs) (number_at (b ∷ prefix is_ascii_digit bytes))) (prefix-rest is_ascii_digit bytes)
        (number_spelled names b (prefix is_ascii_digit bytes) (the_rest is_ascii_digit bytes) f (all_prefix is_ascii_digit bytes) kept)
    go false false f kept = mark_spelled names b bytes kept

-- the bytes after those of the first lexeme
behind_first : (b : ℕ) (bytes xs rest : List ℕ) (n : ℕ) → b ∷ bytes ≡ xs ++ rest → length xs ≡ n → 0 < n → drop (n - 1) bytes ≡ rest
behind_first b bytes xs rest zero e h some = absurd (omega arith)
behind_first b bytes xs rest (suc n) e h some =
    let k : suc n - 1 ≡ n = omega arith in
    ap (λ (j : ℕ). drop j bytes) k ∙ ap (drop (suc n)) e ∙ ap (λ (j : ℕ). drop j (xs ++ rest)) (sym h) ∙ drop-append_seam xs rest

-- the bytes of the pieces of a text are the text, if the pieces meet the conditions
pub text_spelled : (names : List Name) (at k : ℕ) (bytes : List ℕ) → AllPiecesKept (length names) (pieces (tokens_from (each_piece (lexeme_at names)) at k bytes))
    → drop k bytes ≡ bytes_of names (pieces (tokens_from (each_piece (lexeme_at names)) at k bytes))
text_spelled names at zero [] all = refl
text_spelled names at (suc k) [] all = refl
text_spelled names at zero (b ∷ bytes) all =
    let s = lexeme_spelled names b bytes all.0 in
    s.split
    ∙ ap (λ (xs : List ℕ). spelled names (lexeme_at names b bytes).piece ++ xs)
    (sym (behind_first b bytes (spelled names (lexeme_at names b bytes).piece) s.rest (lexeme_at names b bytes).len s.split s.len (lexeme_some names b bytes))
    ∙ text_spelled names (at + 1) ((lexeme_at names b bytes).len - 1) bytes all.1)
text_spelled names at (suc k) (b ∷ bytes) all = text_spelled names (at + 1) k bytes all

-- bytes that end a name or a number before them, and make no call of it: the first byte continues neither a name nor a
-- number, and is no opening bracket
abbrev pub Closes : List ℕ → Type 0
Closes [] = ⊤
Closes (b ∷ bytes) = (continues_name b ≡ false) × (is_ascii_digit b ≡ false) × (nat_eq b 40 ≡ false)

-- bytes that close a piece end a name
closes_name : (bytes : List ℕ) → Closes bytes → Stops continues_name bytes
closes_name [] h = tt
closes_name (b ∷ bytes) h = h.0

-- bytes that close a piece end a number
closes_number : (bytes : List ℕ) → Closes bytes → Stops is_ascii_digit bytes
closes_number [] h = tt
closes_number (b ∷ bytes) h = h.1

-- bytes that close a piece don't begin with an opening bracket
closes_call : (bytes : List ℕ) → Closes bytes → begins_with 40 bytes ≡ false
closes_call [] h = refl
closes_call (b ∷ bytes) h = h.2

-- the lexeme at the beginning of a piece's bytes followed by others is that piece with these bytes
pub record Found (names : List Name) (piece : Piece) (rest : List ℕ) : Type 0 where
  pub first : ℕ
  pub others : List ℕ
  pub split : spelled names piece ≡ first ∷ others
  pub lexeme : lexeme_at names first (others ++ rest) ≡ record { piece = piece; len = length (first ∷ others) }

-- a name is cut from its bytes again, if what follows closes it
word_found : (names : List Name) (i : ℕ) (rest : List ℕ) → AreNames names → i < length names → Closes rest → Found names (Variable i) rest
word_found names i rest are h closed = go (slice_index_or names i []) (listed_name names i are h) refl
  where
    go : (w : Name) → IsName w → slice_index_or names i [] ≡ w → Found names (Variable i) rest
    go [] is e = absurd is
    go (c ∷ cs) is e = record {
      first = c;
      others = cs;
      split = e;
      lexeme =
          ap (λ (v : Bool). cond {A = Lexeme Piece} v (word_at names (c ∷ prefix continues_name (cs ++ rest)) (the_rest continues_name (cs ++ rest))) (cond (is_ascii_digit c) (number_at (c ∷ prefix is_ascii_digit (cs ++ rest))) (record { piece = mark_at c; len = 1 }))) is.0
          ∙ ap (λ (xs : List ℕ). word_at names (c ∷ xs) (the_rest continues_name (cs ++ rest))) (prefix-append continues_name cs rest is.1 (closes_name rest closed))
          ∙ ap (λ (xs : List ℕ). word_at names (c ∷ cs) xs) (rest-append continues_name cs rest is.1 ∙ rest-stops continues_name rest (closes_name rest closed))
          ∙ ap (λ (v : Bool). cond {A = Lexeme Piece} v (cond (is_same (c ∷ cs) (codes "max")) (record { piece = Maximum; len = length (c ∷ cs) + 1 }) (record { piece = Wrong; len = length (c ∷ cs) })) (record { piece = Variable (position_of (c ∷ cs) names); len = length (c ∷ cs) })) (closes_call rest closed)
          ∙ ap (λ (k : ℕ). record { piece = Variable k; len = length (c ∷ cs) }) (ap (λ (w : Name). position_of w names) (sym e) ∙ position_at names i are h);
    }

-- a digit begins no name
digit_no_name : (c : ℕ) → is_ascii_digit c ≡ true → begins_name c ≡ false
digit_no_name c h = grind (arith, nat_tests)

-- a number is cut from its bytes again, if what follows closes it
number_found : (names : List Name) (n : ℕ) (rest : List ℕ) → n < 2 ^ 127 → Closes rest → Found names (Number n) rest
number_found names n rest small closed = go (decimal n) d.0.0 (digits_pass (decimal n) d.0.1) refl
  where
    d : IsNumeral 10 (decimal n) × (digits_value 10 (decimal n) ≡ n)
    d = decimal_is_IsNumeral_wide n (omega (arith, small))

    go : (ds : List ℕ) → 0 < length ds → list_all is_ascii_digit ds ≡ true → decimal n ≡ ds → Found names (Number n) rest
    go [] some all e = absurd (omega (arith, some))
    go (c ∷ cs) some all e =
        let t = and_parts (is_ascii_digit c) (list_all is_ascii_digit cs) all in
        let proper : has_leading_zero (c ∷ cs) ≡ false = ap has_leading_zero (sym e) ∙ decimal_proper n (omega (arith, small)) in
        let value : digits_value 10 (c ∷ cs) ≡ n = ap (digits_value 10) (sym e) ∙ d.1 in
        record {
          first = c;
          others = cs;
          split = e;
          lexeme =
              ap (λ (v : Bool). cond {A = Lexeme Piece} v (word_at names (c ∷ prefix continues_name (cs ++ rest)) (the_rest continues_name (cs ++ rest))) (cond (is_ascii_digit c) (number_at (c ∷ prefix is_ascii_digit (cs ++ rest))) (record { piece = mark_at c; len = 1 }))) (digit_no_name c t.0)
              ∙ ap (λ (v : Bool). cond {A = Lexeme Piece} v (number_at (c ∷ prefix is_ascii_digit (cs ++ rest))) (record { piece = mark_at c; len = 1 })) t.0
              ∙ ap (λ (xs : List ℕ). number_at (c ∷ xs)) (prefix-append is_ascii_digit cs rest t.1 (closes_number rest closed))
              ∙ ap (λ (v : Bool). record { piece = cond v Wrong (Number (value_up_to (2 ^ 127) (c ∷ cs))); len = length (c ∷ cs) }) proper
              ∙ ap (λ (k : ℕ). record { piece = Number k; len = length (c ∷ cs) }) (ap (λ (k : ℕ). min k (2 ^ 127)) value ∙ (let k : min n (2 ^ 127) ≡ n = omega (arith, small) in k));
        }

-- a piece that is a variable or a number
abbrev pub IsLong : Piece → Type 0
IsLong (Variable i) = ⊤
IsLong (Number n) = ⊤
IsLong Maximum = ⊥
IsLong Open = ⊥
IsLong Close = ⊥
IsLong Times = ⊥
IsLong Caret = ⊥
IsLong Plus = ⊥
IsLong Blank = ⊥
IsLong Comma = ⊥
IsLong Wrong = ⊥

-- every piece that meets the conditions is cut from its bytes again
piece_found : (names : List Name) (piece : Piece) (rest : List ℕ) → AreNames names → KeptPiece (length names) piece → (IsLong piece → Closes rest) → Found names piece rest
piece_found names (Variable i) rest are kept closed = word_found names i rest are kept (closed tt)
piece_found names (Number n) rest are kept closed = number_found names n rest kept (closed tt)
piece_found names Maximum rest are kept closed = record { first = 109; others = codes "ax("; split = refl; lexeme = refl }
piece_found names Open rest are kept closed = record { first = 40; others = []; split = refl; lexeme = refl }
piece_found names Close rest are kept closed = record { first = 41; others = []; split = refl; lexeme = refl }
piece_found names Times rest are kept closed = record { first = 42; others = []; split = refl; lexeme = refl }
piece_found names Caret rest are kept closed = record { first = 94; others = []; split = refl; lexeme = refl }
piece_found names Plus rest are kept closed = record { first = 43; others = []; split = refl; lexeme = refl }
piece_found names Blank rest are kept closed = record { first = 32; others = []; split = refl; lexeme = refl }
piece_found names Comma rest are kept closed = record { first = 44; others = []; split = refl; lexeme = refl }
piece_found names Wrong rest are kept closed = absurd kept

-- after an accepted name or number the position is one whose next piece closes it
behind_long : (f g : ParserState) (piece : Piece) → Leads f piece g → IsLong piece → g.position ≡ ItemRead
behind_long f g piece (of_variable o ts fs i) long = refl
behind_long f g piece (of_number o ts fs c) long = refl
behind_long f g piece (of_run o ts fs i n) long = refl
behind_long f g piece (of_power o ts fs c n) long = refl
behind_long f g piece (of_power_of o ts fs c i) long = refl
behind_long f g piece (of_maximum o ts fs) long = absurd long
behind_long f g piece (of_sum o ts fs) long = absurd long
behind_long f g piece (of_exponent o ts fs c) long = absurd long
behind_long f g piece (of_times o ts fs e) long = absurd long
behind_long f g piece (of_base o ts fs c) long = absurd long
behind_long f g piece (of_caret o ts fs i) long = absurd long
behind_long f g piece (of_blank o ts fs e) long = absurd long
behind_long f g piece (of_comma o ts fs e) long = absurd long
behind_long f g piece (of_close bracket o ts' fs' ts fs e c) long = absurd long
behind_long f g piece (of_plus o ts fs) long = absurd long
behind_long f g piece (of_term o ts fs e) long = absurd long
behind_long f g piece (of_argument o bs ts' fs' ts fs e) long = absurd long

-- the bytes of a piece that is accepted there close a name or number before it
mark_closes : (names : List Name) (f h : ParserState) (piece : Piece) (rest : List ℕ) → f.position ≡ ItemRead → step f piece ≡ Some h → Closes (spelled names piece ++ rest)
mark_closes names f h piece rest e on = go piece (ap (λ (p : Position). step_at p f.outer f.terms f.factors piece) (sym e) ∙ on)
  where
    go : (piece : Piece) → follow_item f.outer f.terms f.factors piece ≡ Some h → Closes (spelled names piece ++ rest)
    go Times on = (refl, refl, refl)
    go Caret on = (refl, refl, refl)
    go Blank on = (refl, refl, refl)
    go Comma on = (refl, refl, refl)
    go Close on = (refl, refl, refl)
    go (Variable i) on = cc
    go (Number n) on = cc
    go Maximum on = cc
    go Open on = cc
    go Plus on = cc
    go Wrong on = cc

-- the bytes of pieces that are accepted there close a name or number before them
pieces_close : (names : List Name) (g last_one : ParserState) (ps : List Piece) → g.position ≡ ItemRead → walk (Some g) ps ≡ Some last_one → Closes (bytes_of names ps)
pieces_close names g last_one [] e on = tt
pieces_close names g last_one (p ∷ ps) e on = go (step g p) refl on
  where
    go : (o : Option ParserState) → step g p ≡ o → walk o ps ≡ Some last_one → Closes (spelled names p ++ bytes_of names ps)
    go None s on = let n = walk-none step ps in cc
    go (Some h) s on = mark_closes names g h p (bytes_of names ps) e s

-- accepted pieces are cut from their bytes again
pub pieces_lexed : (names : List Name) (ps : List Piece) (f last_one : ParserState) → AreNames names → IsWellFormed f → walk (Some f) ps ≡ Some last_one → AllPiecesKept (length names) ps → pieces (tokens names (bytes_of names ps)) ≡ ps
pieces_lexed names [] f last_one are is on kept = refl
pieces_lexed names (p ∷ ps) f last_one are is on kept = go (step f p) refl on (λ g is on. pieces_lexed names ps g last_one are is on kept.1)
  where
    go : (o : Option ParserState) → step f p ≡ o → walk o ps ≡ Some last_one → ((g : ParserState) → IsWellFormed g → walk (Some g) ps ≡ Some last_one → pieces (tokens names (bytes_of names ps)) ≡ ps)
        → pieces (tokens names (spelled names p ++ bytes_of names ps)) ≡ p ∷ ps
    go None s on ih = let n = walk-none step ps in cc
    go (Some g) s on ih =
        let leads = step_leads f g p is s in
        let r = piece_found names p (bytes_of names ps) are kept.0 (λ long. pieces_close names g last_one ps (behind_long f g p leads long) on) in
        ap pieces
        (tokens-first (each_piece (lexeme_at names)) 0 (spelled names p ++ bytes_of names ps) (r.others ++ bytes_of names ps) (bytes_of names ps) r.first (record { piece = Some p; len = length (r.first ∷ r.others) })
        (ap (λ (xs : List ℕ). xs ++ bytes_of names ps) r.split) (ap (λ (m : Lexeme Piece). record { piece = Some m.piece; len = m.len }) (sym r.lexeme)) (omega arith)
        (sym (ap (λ (k : ℕ). drop k (spelled names p ++ bytes_of names ps)) (sym (ap length r.split)) ∙ drop-append_seam (spelled names p) (bytes_of names ps))))
        ∙ ap (λ (qs : List Piece). p ∷ qs) (pieces_at (each_piece (lexeme_at names)) (bytes_of names ps) 0 (0 + length (r.first ∷ r.others)) 0 ∙ ih g (step_sound f g p is s).is_state on)
