-- The bytes that a piece of a bound inside a proof file was cut from.
use Rattle.std.proofs.Common.{◌≡◌, ℕ, suc, ◌+◌, ◌-◌, ◌<◌, ◌≤◌, ◌^◌, min, nat_eq, Bool, true, false, cond, List, [], ◌∷◌}
use Rattle.std.proofs.Common.{◌++◌, length, drop, Option, Some, refl, ap, sym, subst, ◌∙◌, arith}
use Rattle.std.specs.Prelude.{nat_lt, codes}
use Rattle.std.specs.List.{list_all}
use Rattle.std.specs.Fmt.{decimal}
use Rattle.std.specs.Char.{is_ascii_digit}
use Rattle.std.specs.Str.Parse.{digits_value}
use Rattle.std.proofs.Math.Seq.{drop-append_seam}
use Rattle.std.proofs.lemmas.Bool.Decides.{nat_tests}
use Rattle.its_model.specs.model.Programs.{Name}
use Rattle.bound_text.specs.Pieces.{Piece, Variable, Number, Maximum, Open, Close, Times, Caret, Plus, Blank, Comma, Wrong}
use Rattle.bound_text.specs.Pieces.{spelled}
use Rattle.bound_text.specs.declared.piece.Piece.{Piece as BoundPiece}
use Rattle.bound_text.specs.Printing.{piece_of}
use Rattle.bound_text.specs.Lexing.{lexeme_at, mark_at, number_at, word_at}
use Rattle.bound_text.proofs.KeptBounds.{KeptPiece}
use Rattle.bound_text.proofs.Numerals.{numeral_of}
use Rattle.bound_text.proofs.TextLexing.{Spelled}
use Rattle.text_grammar.specs.text_core.Names.{begins_name, continues_name, is_same, position_of}
use Rattle.text_grammar.specs.text_core.Prefixes.{prefix, rest as the_rest}
use Rattle.text_grammar.specs.text_core.Bytes.{begins_with, has_leading_zero, value_up_to}
use Rattle.text_grammar.specs.text_core.Tokens.{Lexeme}
use Rattle.text_core.proofs.NameLaws.{same_equal}
use Rattle.text_core.proofs.PositionLaws.{at_position}
use Rattle.text_core.proofs.PrefixLaws.{all_prefix, prefix-rest}
use Rattle.cert_lexer.specs.declared.piece.Mode.TheVariants as mode
use Rattle.cert_lexer.specs.declared.piece.Piece as piece
use Rattle.cert_lexer.specs.declared.piece.Piece.TheVariants.{InBound}
use Rattle.cert_lexer.specs.Lexing.{bound_lexeme, bound_piece, depth_behind, ends_before, ends_bound, lexeme_in, plain_lexeme}
use Rattle.cert_lexer.proofs.CutBack.{plain_no_bound}

-- bytes that begin with c are c and other bytes
begins_split : (c : ℕ) (bytes : List ℕ) → begins_with c bytes ≡ true → (rest : List ℕ) × (bytes ≡ c ∷ rest)
begins_split c [] h = cc
begins_split c (b ∷ bytes) h =
    (bytes, (let e : b ≡ c = grind (arith, nat_tests) in ap (λ (x : ℕ). x ∷ bytes) e))

-- the piece of a name, by whether a bracket follows it and whether it is `max`
abbrev name_piece : List Name → Name → Bool → Bool → Lexeme Piece
name_piece names w v u =
    cond {A = Lexeme Piece} v (cond u (record { piece = Maximum; len = length w + 1 })
    (record { piece = Wrong; len = length w })) (record { piece = Variable (position_of w names); len = length w })

-- a name that meets the conditions is spelled by its bytes
word_spelled : (names : List Name) (w rest : List ℕ) → KeptPiece (length names) (word_at names w rest).piece
    → Spelled names (w ++ rest) (word_at names w rest)
word_spelled names w rest kept = go (begins_with 40 rest) (is_same w (codes "max")) refl refl kept
  where
    go : (v u : Bool) → begins_with 40 rest ≡ v → is_same w (codes "max") ≡ u → KeptPiece (length names) (name_piece names w v u).piece
        → Spelled names (w ++ rest) (name_piece names w v u)
    go true true e f kept =
        let r = begins_split 40 rest e in
        let m : w ≡ codes "max" = same_equal w (codes "max") f in record {
          rest = r.0;
          split = ap (λ (xs : List ℕ). xs ++ rest) m ∙ ap (λ (xs : List ℕ). codes "max" ++ xs) r.1;
          len = (let k : 4 ≡ length (codes "max") + 1 = refl in k ∙ ap (λ (xs : List ℕ). length xs + 1) (sym m));
        }
    go true false e f kept = absurd kept
    go false u e f kept =
        let p = at_position names w kept in
        record { rest = rest; split = ap (λ (xs : List ℕ). xs ++ rest) (sym p); len = ap length p }

-- a number that meets the conditions is spelled by its bytes
number_spelled : (names : List Name) (c : ℕ) (ds rest : List ℕ) → is_ascii_digit c ≡ true
    → list_all is_ascii_digit ds ≡ true → KeptPiece (length names) (number_at (c ∷ ds)).piece
    → Spelled names ((c ∷ ds) ++ rest) (number_at (c ∷ ds))
number_spelled names c ds rest d all kept = go (has_leading_zero (c ∷ ds)) refl kept
  where
    go : (v : Bool) → has_leading_zero (c ∷ ds) ≡ v
        → KeptPiece (length names) (cond v Wrong (Number (value_up_to (2 ^ 127) (c ∷ ds))))
        → Spelled names ((c ∷ ds) ++ rest)
        (record { piece = cond v Wrong (Number (value_up_to (2 ^ 127) (c ∷ ds))); len = length (c ∷ ds) })
    go true e kept = absurd kept
    go false e kept =
        let small : digits_value 10 (c ∷ ds) < 2 ^ 127 = omega (arith, kept) in
        let same : value_up_to (2 ^ 127) (c ∷ ds) ≡ digits_value 10 (c ∷ ds) = omega (arith, small) in
        let n : decimal (value_up_to (2 ^ 127) (c ∷ ds)) ≡ c ∷ ds =
        ap decimal same ∙ numeral_of c ds d all e (omega (arith, small)) in
        record { rest = rest; split = ap (λ (xs : List ℕ). xs ++ rest) (sym n); len = ap length n }

-- the piece of a byte that begins neither a name nor a number, by comparisons with the marks
abbrev mark_piece : Bool → Bool → Bool → Bool → Bool → Bool → Bool → Piece
mark_piece a c d e f g h =
    cond a Open (cond c Close (cond d Times (cond e Caret (cond f Plus (cond g Blank (cond h Comma Wrong))))))

-- any other piece that meets the conditions is spelled by its bytes
mark_spelled : (names : List Name) (b : ℕ) (rest : List ℕ) → KeptPiece (length names) (mark_at b)
    → Spelled names (b ∷ rest) (record { piece = mark_at b; len = 1 })
mark_spelled names b rest kept =
    go (nat_eq b 40) (nat_eq b 41) (nat_eq b 42) (nat_eq b 94) (nat_eq b 43) (nat_eq b 32) (nat_eq b 44)
    refl refl refl refl refl refl refl kept
  where
    same : (k : ℕ) → nat_eq b k ≡ true → b ∷ rest ≡ k ∷ rest
    same k h = let e : b ≡ k = grind (arith, nat_tests) in ap (λ (x : ℕ). x ∷ rest) e

    go : (a c d e f g h : Bool) → nat_eq b 40 ≡ a → nat_eq b 41 ≡ c → nat_eq b 42 ≡ d → nat_eq b 94 ≡ e
        → nat_eq b 43 ≡ f → nat_eq b 32 ≡ g → nat_eq b 44 ≡ h → KeptPiece (length names) (mark_piece a c d e f g h)
        → Spelled names (b ∷ rest) (record { piece = mark_piece a c d e f g h; len = 1 })
    go true c d e f g h p q r s t u v kept = record { rest = rest; split = same 40 p; len = refl }
    go false true d e f g h p q r s t u v kept = record { rest = rest; split = same 41 q; len = refl }
    go false false true e f g h p q r s t u v kept = record { rest = rest; split = same 42 r; len = refl }
    go false false false true f g h p q r s t u v kept = record { rest = rest; split = same 94 s; len = refl }
    go false false false false true g h p q r s t u v kept = record { rest = rest; split = same 43 t; len = refl }
    go false false false false false true h p q r s t u v kept = record { rest = rest; split = same 32 u; len = refl }
    go false false false false false false true p q r s t u v kept = record { rest = rest; split = same 44 v; len = refl }
    go false false false false false false false p q r s t u v kept = absurd kept

-- the first piece of bytes, by whether a name or a number begins there
abbrev first_piece : List Name → ℕ → List ℕ → Bool → Bool → Lexeme Piece
first_piece names b bytes v w =
    cond {A = Lexeme Piece} v (word_at names (b ∷ prefix continues_name bytes) (the_rest continues_name bytes))
    (cond w (number_at (b ∷ prefix is_ascii_digit bytes)) (record { piece = mark_at b; len = 1 }))

-- a lexeme whose piece meets the conditions is spelled by the bytes that it was cut from
lexeme_spelled : (names : List Name) (b : ℕ) (bytes : List ℕ) → KeptPiece (length names) (lexeme_at names b bytes).piece
    → Spelled names (b ∷ bytes) (lexeme_at names b bytes)
lexeme_spelled names b bytes kept = go (begins_name b) (is_ascii_digit b) refl kept
  where
    go : (v w : Bool) → is_ascii_digit b ≡ w → KeptPiece (length names) (first_piece names b bytes v w).piece
        → Spelled names (b ∷ bytes) (first_piece names b bytes v w)
    go true w f kept =
        subst (λ (xs : List ℕ). Spelled names (b ∷ xs)
        (word_at names (b ∷ prefix continues_name bytes) (the_rest continues_name bytes))) (prefix-rest continues_name bytes)
        (word_spelled names (b ∷ prefix continues_name bytes) (the_rest continues_name bytes) kept)
    go false true f kept =
        subst (λ (xs : List ℕ). Spelled names (b ∷ xs) (number_at (b ∷ prefix is_ascii_digit bytes)))
        (prefix-rest is_ascii_digit bytes)
        (number_spelled names b (prefix is_ascii_digit bytes) (the_rest is_ascii_digit bytes) f
        (all_prefix is_ascii_digit bytes) kept)
    go false false f kept = mark_spelled names b bytes kept

-- if the piece of the code meets the conditions, it is the piece of the definition
kept_back : (n before : ℕ) (q : Piece) → n < 2 ^ 32 → KeptPiece n (piece_of (bound_piece n before q))
    → KeptPiece n q × (piece_of (bound_piece n before q) ≡ q)
kept_back n before (Variable i) small kept = go (nat_lt i n) refl kept
  where
    go : (v : Bool) → nat_lt i n ≡ v → min (cond v i (i + before)) (2 ^ 32 - 1) < n
        → (i < n) × (Variable (min (cond v i (i + before)) (2 ^ 32 - 1)) ≡ Variable i)
    go true e k =
        let l : i < n = grind (arith, nat_tests) in
        let m : min i (2 ^ 32 - 1) ≡ i = omega (arith, l, small) in
        (l, ap (λ (j : ℕ). Variable j) m)
    go false e k =
        let l : n ≤ i = grind (arith, nat_tests) in
        absurd (omega (arith, l, k, small))
kept_back n before (Number k) small kept = (kept, refl)
kept_back n before Maximum small kept = (tt, refl)
kept_back n before Open small kept = (tt, refl)
kept_back n before Close small kept = (tt, refl)
kept_back n before Times small kept = (tt, refl)
kept_back n before Caret small kept = (tt, refl)
kept_back n before Plus small kept = (tt, refl)
kept_back n before Blank small kept = (tt, refl)
kept_back n before Comma small kept = (tt, refl)
kept_back n before Wrong small kept = (kept, refl)

-- the bytes after those of the first piece
behind_first : (b : ℕ) (bytes xs rest : List ℕ) (some : ℕ) → b ∷ bytes ≡ xs ++ rest → length xs ≡ suc some
    → drop some bytes ≡ rest
behind_first b bytes xs rest some e h =
    ap (drop (suc some)) e ∙ ap (λ (j : ℕ). drop j (xs ++ rest)) (sym h) ∙ drop-append_seam xs rest

-- the properties of a piece of a bound that was found
pub record IsInner (names : List Name) (depth b : ℕ) (bytes : List ℕ) (q : BoundPiece) (last : Bool) (some : ℕ) : Type 0
  where
    pub ends : last ≡ ends_before (depth_behind depth q) (drop some bytes)
    pub spells : KeptPiece (length names) (piece_of q) → b ∷ bytes ≡ spelled names (piece_of q) ++ drop some bytes

-- a piece of a bound that was cut has the properties of one, and is spelled by its bytes
pub inner_back : (symbols names : List Name) (depth before b : ℕ) (bytes : List ℕ) (q : BoundPiece) (len : ℕ)
    (last : Bool) (some : ℕ) → length names < 2 ^ 32
    → lexeme_in symbols names (mode.InBound depth before) b bytes ≡ record { piece = Some (InBound q len last); len = suc some }
    → IsInner names depth b bytes q last some
inner_back symbols names depth before b bytes q len last some small h = go (ends_bound depth b) h
  where
    go : (v : Bool)
        → cond v (plain_lexeme symbols b bytes) (bound_lexeme (length names) depth before (b ∷ bytes) (lexeme_at names b bytes))
        ≡ record { piece = Some (InBound q len last); len = suc some }
        → IsInner names depth b bytes q last some
    go true e = absurd (plain_no_bound symbols b bytes q len last some e)
    go false e =
        let p = ap (λ (k : Lexeme (Option piece.Piece)). k.piece) e in
        let long : (lexeme_at names b bytes).len ≡ suc some = ap (λ (k : Lexeme (Option piece.Piece)). k.len) e in
        let same : bound_piece (length names) before (lexeme_at names b bytes).piece ≡ q = cc in
        let ends : ends_before (depth_behind depth (bound_piece (length names) before (lexeme_at names b bytes).piece))
        (drop (lexeme_at names b bytes).len (b ∷ bytes)) ≡ last = cc in
        record {
          ends =
              sym ends
              ∙ ap (λ (x : BoundPiece). ends_before (depth_behind depth x) (drop (lexeme_at names b bytes).len (b ∷ bytes))) same
              ∙ ap (λ (k : ℕ). ends_before (depth_behind depth q) (drop k (b ∷ bytes))) long;
          spells = λ kept.
              let k = kept_back (length names) before (lexeme_at names b bytes).piece small
              (subst (λ (x : BoundPiece). KeptPiece (length names) (piece_of x)) (sym same) kept) in
              let s = lexeme_spelled names b bytes k.0 in
              let here : piece_of q ≡ (lexeme_at names b bytes).piece = sym (ap piece_of same) ∙ k.1 in
              s.split
              ∙ ap (λ (xs : List ℕ). spelled names (lexeme_at names b bytes).piece ++ xs)
              (sym (behind_first b bytes (spelled names (lexeme_at names b bytes).piece) s.rest some s.split (s.len ∙ long)))
              ∙ ap (λ (x : Piece). spelled names x ++ drop some bytes) (sym here);
        }

-- while a bound is open, only pieces of bounds are cut
pub inner_only : (symbols names : List Name) (depth before b : ℕ) (bytes : List ℕ) → ends_bound depth b ≡ false
    → (q : BoundPiece) × (len : ℕ) × (last : Bool)
    × ((lexeme_in symbols names (mode.InBound depth before) b bytes).piece ≡ Some (InBound q len last))
inner_only symbols names depth before b bytes on =
    let l = bound_lexeme (length names) depth before (b ∷ bytes) (lexeme_at names b bytes) in (
      bound_piece (length names) before (lexeme_at names b bytes).piece,
      (lexeme_at names b bytes).len,
      ends_before (depth_behind depth (bound_piece (length names) before (lexeme_at names b bytes).piece))
          (drop (lexeme_at names b bytes).len (b ∷ bytes)),
      ap (λ (v : Bool). (cond v (plain_lexeme symbols b bytes) l).piece) on,
    )
