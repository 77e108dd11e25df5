-- The bytes that a piece of a proof file was cut from.
use Rattle.std.proofs.Common.{◌≡◌, ℕ, suc, ◌<◌, ◌^◌, Bool, true, false, cond, List, [], ◌∷◌}
use Rattle.std.proofs.Common.{◌++◌, length, drop, Option, Some, refl, ap, sym, ◌∙◌, arith, inl, inr}
use Rattle.std.specs.Prelude.{◌==◌, ◌⊎◌, ⊤, codes}
use Rattle.std.specs.Fmt.{decimal}
use Rattle.std.specs.Char.{is_ascii_digit}
use Rattle.std.specs.Str.Parse.{digits_value}
use Rattle.std.proofs.lemmas.Bool.Decides.{nat_tests}
use Rattle.its_model.specs.model.Programs.{Name as NameBytes}
use Rattle.bound_text.specs.declared.piece.Piece.{Piece as BoundPiece}
use Rattle.bound_text.proofs.Numerals.{numeral_of}
use Rattle.text_grammar.specs.text_core.Names.{begins_name, continues_name, is_same}
use Rattle.text_grammar.specs.text_core.Prefixes.{prefix}
use Rattle.text_grammar.specs.text_core.Bytes.{has_leading_zero, value_up_to}
use Rattle.text_grammar.specs.text_core.Tokens.{Lexeme}
use Rattle.text_core.proofs.PrefixLaws.{all_prefix, drop-prefix, prefix-rest}
use Rattle.text_core.proofs.NameLaws.{same_equal}
use Rattle.cert_lexer.specs.declared.piece.Word.{Word}
use Rattle.cert_lexer.specs.declared.piece.Word.TheVariants as word
use Rattle.cert_lexer.specs.declared.piece.Sign.{Sign}
use Rattle.cert_lexer.specs.declared.piece.Sign.TheVariants as sign
use Rattle.cert_lexer.specs.declared.piece.Behind.{Behind}
use Rattle.cert_lexer.specs.declared.piece.Piece.{Piece}
use Rattle.cert_lexer.specs.declared.piece.Piece.TheVariants.{First, Name, Number, Sign as ASign, Place, InBound, Wrong}
use Rattle.cert_lexer.specs.Lexing.{Spelled, digits_lexeme, lexeme}
use Rattle.cert_lexer.specs.Lexing.{name_lexeme, node_words, other_words, plain_lexeme, sign_at}
use Rattle.cert_lexer.specs.Lexing.{symbol_of, word_among, word_of}

-- the byte of a sign (a piece of one byte)
abbrev pub byte_of : Sign → ℕ
byte_of sign.Blank = 32
byte_of sign.LineFeed = 10
byte_of sign.OpenSquare = 91
byte_of sign.CloseSquare = 93
byte_of sign.OpenBrace = 123
byte_of sign.CloseBrace = 125
byte_of sign.Open = 40
byte_of sign.Close = 41
byte_of sign.Semicolon = 59
byte_of sign.Dot = 46
byte_of sign.Minus = 45

-- a byte that begins neither a name nor a number is a sign, or wrong
sign_found : (b : ℕ) → (sign_at b ≡ Wrong) ⊎ ((k : Sign) × (sign_at b ≡ ASign k) × (b ≡ byte_of k))
sign_found b =
    go (b == 32) (b == 10) (b == 91) (b == 93) (b == 123) (b == 125) (b == 40) (b == 41) (b == 59) (b == 46) (b == 45)
    refl refl refl refl refl refl refl refl refl refl refl
  where
    same : (c : ℕ) → (b == c) ≡ true → b ≡ c
    same c h = grind (arith, nat_tests)

    go : (a c d e f g h i j k l : Bool) → (b == 32) ≡ a → (b == 10) ≡ c → (b == 91) ≡ d → (b == 93) ≡ e → (b == 123) ≡ f
        → (b == 125) ≡ g → (b == 40) ≡ h → (b == 41) ≡ i → (b == 59) ≡ j → (b == 46) ≡ k → (b == 45) ≡ l
        → (cond a (ASign sign.Blank) (cond c (ASign sign.LineFeed) (cond d (ASign sign.OpenSquare)
        (cond e (ASign sign.CloseSquare) (cond f (ASign sign.OpenBrace) (cond g (ASign sign.CloseBrace)
        (cond h (ASign sign.Open) (cond i (ASign sign.Close) (cond j (ASign sign.Semicolon) (cond k (ASign sign.Dot)
        (cond l (ASign sign.Minus) Wrong)))))))))) ≡ Wrong)
        ⊎ ((s : Sign) × (cond a (ASign sign.Blank) (cond c (ASign sign.LineFeed) (cond d (ASign sign.OpenSquare)
        (cond e (ASign sign.CloseSquare) (cond f (ASign sign.OpenBrace) (cond g (ASign sign.CloseBrace)
        (cond h (ASign sign.Open) (cond i (ASign sign.Close) (cond j (ASign sign.Semicolon) (cond k (ASign sign.Dot)
        (cond l (ASign sign.Minus) Wrong)))))))))) ≡ ASign s) × (b ≡ byte_of s))
    go true c d e f g h i j k l p q r s t u v w x y z = inr (sign.Blank, refl, same 32 p)
    go false true d e f g h i j k l p q r s t u v w x y z = inr (sign.LineFeed, refl, same 10 q)
    go false false true e f g h i j k l p q r s t u v w x y z = inr (sign.OpenSquare, refl, same 91 r)
    go false false false true f g h i j k l p q r s t u v w x y z = inr (sign.CloseSquare, refl, same 93 s)
    go false false false false true g h i j k l p q r s t u v w x y z = inr (sign.OpenBrace, refl, same 123 t)
    go false false false false false true h i j k l p q r s t u v w x y z = inr (sign.CloseBrace, refl, same 125 u)
    go false false false false false false true i j k l p q r s t u v w x y z = inr (sign.Open, refl, same 40 v)
    go false false false false false false false true j k l p q r s t u v w x y z = inr (sign.Close, refl, same 41 w)
    go false false false false false false false false true k l p q r s t u v w x y z = inr (sign.Semicolon, refl, same 59 x)
    go false false false false false false false false false true l p q r s t u v w x y z = inr (sign.Dot, refl, same 46 y)
    go false false false false false false false false false false true p q r s t u v w x y z =
        inr (sign.Minus, refl, same 45 z)
    go false false false false false false false false false false false p q r s t u v w x y z = inl refl

-- the possible lexemes of bytes where no list and no bound is open
pub data Begins (symbols : List NameBytes) (b : ℕ) (bytes : List ℕ) : Type 0 where
  AName : begins_name b ≡ true
      → plain_lexeme symbols b bytes ≡ name_lexeme symbols (b ∷ prefix continues_name bytes) → Begins symbols b bytes
  ANumber : is_ascii_digit b ≡ true → plain_lexeme symbols b bytes ≡ digits_lexeme (b ∷ prefix is_ascii_digit bytes)
      → Begins symbols b bytes
  AByte : (k : Sign) → b ≡ byte_of k → plain_lexeme symbols b bytes ≡ lexeme (ASign k) 1 → Begins symbols b bytes
  ABreak : plain_lexeme symbols b bytes ≡ lexeme Wrong 1 → Begins symbols b bytes

pub begins_so : (symbols : List NameBytes) (b : ℕ) (bytes : List ℕ) → Begins symbols b bytes
begins_so symbols b bytes = go (begins_name b) refl (is_ascii_digit b) refl (sign_found b)
  where
    whole : (v w : Bool) → begins_name b ≡ v → is_ascii_digit b ≡ w → plain_lexeme symbols b bytes
        ≡ cond v (name_lexeme symbols (b ∷ prefix continues_name bytes))
        (cond w (digits_lexeme (b ∷ prefix is_ascii_digit bytes)) (lexeme (sign_at b) 1))
    whole v w e f =
        ap (λ (u : Bool). cond u (name_lexeme symbols (b ∷ prefix continues_name bytes))
        (cond (is_ascii_digit b) (digits_lexeme (b ∷ prefix is_ascii_digit bytes)) (lexeme (sign_at b) 1))) e
        ∙ ap (λ (u : Bool). cond v (name_lexeme symbols (b ∷ prefix continues_name bytes))
        (cond u (digits_lexeme (b ∷ prefix is_ascii_digit bytes)) (lexeme (sign_at b) 1))) f

    go : (v : Bool) → begins_name b ≡ v → (w : Bool) → is_ascii_digit b ≡ w
        → ((sign_at b ≡ Wrong) ⊎ ((k : Sign) × (sign_at b ≡ ASign k) × (b ≡ byte_of k))) → Begins symbols b bytes
    go true e w f s = AName e (whole true w e f)
    go false e true f s = ANumber f (whole false true e f)
    go false e false f (inl s) = ABreak (whole false false e f ∙ ap (λ (q : Piece). lexeme q 1) s)
    go false e false f (inr (k, s, same)) = AByte k same (whole false false e f ∙ ap (λ (q : Piece). lexeme q 1) s)

-- equal lexemes have the same piece and length
found_piece : {l m : Lexeme (Option Piece)} → l ≡ m → l.piece ≡ m.piece
found_piece e = ap (λ (k : Lexeme (Option Piece)). k.piece) e

found_len : {l m : Lexeme (Option Piece)} → l ≡ m → l.len ≡ m.len
found_len e = ap (λ (k : Lexeme (Option Piece)). k.len) e

-- the lexeme at byte b, where nothing is open, is this piece, with n bytes after the first
abbrev pub Found : List NameBytes → ℕ → List ℕ → Piece → ℕ → Type 0
Found symbols b bytes q some = plain_lexeme symbols b bytes ≡ record { piece = Some q; len = suc some }

module _ (symbols : List NameBytes) (b : ℕ) (bytes : List ℕ) where
  -- a sign is cut from its byte alone
  pub plain_sign : (k : Sign) (some : ℕ) → Found symbols b bytes (ASign k) some → (b ≡ byte_of k) × (some ≡ 0)
  plain_sign k some h = go (begins_so symbols b bytes)
    where
      number : (v : Bool) (n : ℕ) → Some (cond v Wrong (Number n)) ≡ Some (ASign k) → ⊥
      number true n e = cc
      number false n e = cc

      go : Begins symbols b bytes → (b ≡ byte_of k) × (some ≡ 0)
      go (AName v e) = let p = found_piece (sym e ∙ h) in cc
      go (ANumber v e) =
          absurd (number (has_leading_zero (b ∷ prefix is_ascii_digit bytes))
          (value_up_to (2 ^ 127) (b ∷ prefix is_ascii_digit bytes)) (found_piece (sym e ∙ h)))
      go (AByte j same e) =
          let p = found_piece (sym e ∙ h) in
          let k' : j ≡ k = cc in
          let l = found_len (sym e ∙ h) in
          (same ∙ ap byte_of k', omega (arith, l))
      go (ABreak e) = let p = found_piece (sym e ∙ h) in cc

  -- a name is cut from the longest name that the bytes begin with
  pub plain_name : (w : Word) (symbol some : ℕ) → Found symbols b bytes (Name w symbol) some
      → (word_of (b ∷ prefix continues_name bytes) ≡ w) × (symbol_of symbols (b ∷ prefix continues_name bytes) ≡ symbol)
      × (begins_name b ≡ true) × (b ∷ bytes ≡ (b ∷ prefix continues_name bytes) ++ drop some bytes)
  plain_name w symbol some h = go (begins_so symbols b bytes)
    where
      number : (v : Bool) (n : ℕ) → Some (cond v Wrong (Number n)) ≡ Some (Name w symbol) → ⊥
      number true n e = cc
      number false n e = cc

      go : Begins symbols b bytes → (word_of (b ∷ prefix continues_name bytes) ≡ w)
          × (symbol_of symbols (b ∷ prefix continues_name bytes) ≡ symbol) × (begins_name b ≡ true)
          × (b ∷ bytes ≡ (b ∷ prefix continues_name bytes) ++ drop some bytes)
      go (AName v e) =
          let p = found_piece (sym e ∙ h) in
          let l = found_len (sym e ∙ h) in
          let long : length (prefix continues_name bytes) ≡ some = omega (arith, l) in
          let front : word_of (b ∷ prefix continues_name bytes) ≡ w = cc in
          let place : symbol_of symbols (b ∷ prefix continues_name bytes) ≡ symbol = cc in (
            front,
            place,
            v,
            ap (λ (xs : List ℕ). b ∷ xs) (sym (prefix-rest continues_name bytes)
                ∙ ap (λ (xs : List ℕ). prefix continues_name bytes ++ xs) (sym (drop-prefix continues_name bytes)
                ∙ ap (λ (k : ℕ). drop k bytes) long)),
          )
      go (ANumber v e) =
          absurd (number (has_leading_zero (b ∷ prefix is_ascii_digit bytes))
          (value_up_to (2 ^ 127) (b ∷ prefix is_ascii_digit bytes)) (found_piece (sym e ∙ h)))
      go (AByte j same e) = let p = found_piece (sym e ∙ h) in cc
      go (ABreak e) = let p = found_piece (sym e ∙ h) in cc

  -- a number below 2^127 is cut from the bytes that write it
  pub plain_number : (n some : ℕ) → n < 2 ^ 127 → Found symbols b bytes (Number n) some
      → b ∷ bytes ≡ decimal n ++ drop some bytes
  plain_number n some small h = go (begins_so symbols b bytes)
    where
      digits : (v : Bool) (m : ℕ) → Some (cond v Wrong (Number m)) ≡ Some (Number n) → (v ≡ false) × (m ≡ n)
      digits true m e = cc
      digits false m e = (refl, cc)

      go : Begins symbols b bytes → b ∷ bytes ≡ decimal n ++ drop some bytes
      go (AName v e) = let p = found_piece (sym e ∙ h) in cc
      go (ANumber v e) =
          let ds : List ℕ = prefix is_ascii_digit bytes in
          let d = digits (has_leading_zero (b ∷ ds)) (value_up_to (2 ^ 127) (b ∷ ds)) (found_piece (sym e ∙ h)) in
          let l = found_len (sym e ∙ h) in
          let long : length ds ≡ some = omega (arith, l) in
          let m = d.1 in
          let same : digits_value 10 (b ∷ ds) ≡ n = omega (arith, m, small) in
          let low : digits_value 10 (b ∷ ds) < 10 ^ 64 = omega (arith, same, small) in
          let written : decimal n ≡ b ∷ ds =
          ap decimal (sym same) ∙ numeral_of b ds v (all_prefix is_ascii_digit bytes) d.0 low in
          ap (λ (xs : List ℕ). b ∷ xs) (sym (prefix-rest is_ascii_digit bytes)
          ∙ ap (λ (xs : List ℕ). ds ++ xs) (sym (drop-prefix is_ascii_digit bytes) ∙ ap (λ (k : ℕ). drop k bytes) long))
          ∙ ap (λ (xs : List ℕ). xs ++ drop some bytes) (sym written)
      go (AByte j same e) = let p = found_piece (sym e ∙ h) in cc
      go (ABreak e) = let p = found_piece (sym e ∙ h) in cc

  -- where nothing is open, no piece of a bound, no place and no first word is cut
  pub plain_no_bound : (q : BoundPiece) (len : ℕ) (last : Bool) (some : ℕ)
      → Found symbols b bytes (InBound q len last) some → ⊥
  plain_no_bound q len last some h = go (begins_so symbols b bytes)
    where
      number : (v : Bool) (n : ℕ) → Some (cond v Wrong (Number n)) ≡ Some (InBound q len last) → ⊥
      number true n e = cc
      number false n e = cc

      go : Begins symbols b bytes → ⊥
      go (AName v e) = let p = found_piece (sym e ∙ h) in cc
      go (ANumber v e) =
          number (has_leading_zero (b ∷ prefix is_ascii_digit bytes))
          (value_up_to (2 ^ 127) (b ∷ prefix is_ascii_digit bytes)) (found_piece (sym e ∙ h))
      go (AByte j same e) = let p = found_piece (sym e ∙ h) in cc
      go (ABreak e) = let p = found_piece (sym e ∙ h) in cc

  pub plain_no_place : (s : ℕ) (d : Behind) (some : ℕ) → Found symbols b bytes (Place s d) some → ⊥
  plain_no_place s d some h = go (begins_so symbols b bytes)
    where
      number : (v : Bool) (n : ℕ) → Some (cond v Wrong (Number n)) ≡ Some (Place s d) → ⊥
      number true n e = cc
      number false n e = cc

      go : Begins symbols b bytes → ⊥
      go (AName v e) = let p = found_piece (sym e ∙ h) in cc
      go (ANumber v e) =
          number (has_leading_zero (b ∷ prefix is_ascii_digit bytes))
          (value_up_to (2 ^ 127) (b ∷ prefix is_ascii_digit bytes)) (found_piece (sym e ∙ h))
      go (AByte j same e) = let p = found_piece (sym e ∙ h) in cc
      go (ABreak e) = let p = found_piece (sym e ∙ h) in cc

  pub plain_no_first : (some : ℕ) → Found symbols b bytes First some → ⊥
  plain_no_first some h = go (begins_so symbols b bytes)
    where
      number : (v : Bool) (n : ℕ) → Some (cond v Wrong (Number n)) ≡ Some First → ⊥
      number true n e = cc
      number false n e = cc

      go : Begins symbols b bytes → ⊥
      go (AName v e) = let p = found_piece (sym e ∙ h) in cc
      go (ANumber v e) =
          number (has_leading_zero (b ∷ prefix is_ascii_digit bytes))
          (value_up_to (2 ^ 127) (b ∷ prefix is_ascii_digit bytes)) (found_piece (sym e ∙ h))
      go (AByte j same e) = let p = found_piece (sym e ∙ h) in cc
      go (ABreak e) = let p = found_piece (sym e ∙ h) in cc

-- the bytes of a word, which no other name has
abbrev pub bytes_of_word : Word → List ℕ
bytes_of_word word.Lemma = codes "lemma"
bytes_of_word word.Gap = codes "gap"
bytes_of_word word.End = codes "end"
bytes_of_word word.Cite = codes "cite"
bytes_of_word word.Start = codes "start"
bytes_of_word word.Empty = codes "empty"
bytes_of_word word.Unreached = codes "unreached"
bytes_of_word word.Never = codes "never"
bytes_of_word word.Rank = codes "rank"
bytes_of_word word.Spread = codes "spread"
bytes_of_word word.Cycle = codes "cycle"
bytes_of_word word.Weaken = codes "weaken"
bytes_of_word word.Cost = codes "cost"
bytes_of_word word.Uses = codes "uses"
bytes_of_word word.Set = codes "set"
bytes_of_word word.Den = codes "den"
bytes_of_word word.Forms = codes "forms"
bytes_of_word word.Moves = codes "moves"
bytes_of_word word.Floor = codes "floor"
bytes_of_word word.Up = codes "up"
bytes_of_word word.Low = codes "low"
bytes_of_word word.Poly = codes "poly"
bytes_of_word word.Lin = codes "lin"
bytes_of_word word.To = codes "to"
bytes_of_word word.Shut = codes "shut"
bytes_of_word word.Kept = codes "kept"
bytes_of_word word.Other = []

-- each of these words is spelled by its bytes
AllSpelled : List Spelled → Type 0
AllSpelled [] = ⊤
AllSpelled (w ∷ ws) = (bytes_of_word w.word ≡ w.bytes) × AllSpelled ws

among_spelled : (ws : List Spelled) (other : Word) (name : NameBytes) → AllSpelled ws
    → (word_among ws other name ≡ other) ⊎ (name ≡ bytes_of_word (word_among ws other name))
unfolding AllSpelled
among_spelled [] other name h = inl refl
among_spelled (w ∷ ws) other name h = go (is_same name w.bytes) refl (among_spelled ws other name h.1)
  where
    go : (v : Bool) → is_same name w.bytes ≡ v
        → ((word_among ws other name ≡ other) ⊎ (name ≡ bytes_of_word (word_among ws other name)))
        → (cond v w.word (word_among ws other name) ≡ other) ⊎ (name ≡ bytes_of_word (cond v w.word (word_among ws other name)))
    go true e ih = inr (same_equal name w.bytes e ∙ sym h.0)
    go false e ih = ih

-- a name is no word, or it is spelled by the bytes of its word
pub word_bytes : (name : NameBytes) → (word_of name ≡ word.Other) ⊎ (name ≡ bytes_of_word (word_of name))
unfolding AllSpelled
word_bytes name =
    go (among_spelled node_words (word_among other_words word.Other name) name
    (refl, (refl, (refl, (refl, (refl, (refl, (refl, (refl, (refl, (refl, (refl, (refl, (refl, tt))))))))))))))
    (among_spelled other_words word.Other name
    (refl, (refl, (refl, (refl, (refl, (refl, (refl, (refl, (refl, (refl, (refl, (refl, (refl, tt))))))))))))))
  where
    go : ((word_of name ≡ word_among other_words word.Other name) ⊎ (name ≡ bytes_of_word (word_of name)))
        → ((word_among other_words word.Other name ≡ word.Other)
        ⊎ (name ≡ bytes_of_word (word_among other_words word.Other name)))
        → (word_of name ≡ word.Other) ⊎ (name ≡ bytes_of_word (word_of name))
    go (inr e) o = inr e
    go (inl e) (inl o) = inl (e ∙ o)
    go (inl e) (inr o) = inr (o ∙ ap bytes_of_word (sym e))
