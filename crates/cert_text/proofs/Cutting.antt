-- Reading pieces by their bytes: signs, words and numbers.
use Rattle.std.proofs.Common.{◌≡◌, ℕ, suc, ◌<◌, ◌≤◌, ◌^◌, min, Bool, true, false, cond, List, [], ◌∷◌, ◌++◌, length}
use Rattle.std.proofs.Common.{Some, None, refl, ap, sym, subst, ◌∙◌, arith, inl, inr}
use Rattle.std.specs.Prelude.{◌==◌, codes}
use Rattle.std.specs.List.{list_all}
use Rattle.std.specs.Fmt.{decimal}
use Rattle.std.specs.Char.{is_ascii_digit}
use Rattle.std.specs.Str.Parse.{IsNumeral, digits_value}
use Rattle.std.proofs.Math.Seq.{drop-append_seam}
use Rattle.std.proofs.lemmas.Fmt.{decimal_is_IsNumeral_wide}
use Rattle.std.proofs.lemmas.Bool.{and_parts}
use Rattle.std.proofs.lemmas.Bool.Decides.{nat_tests}
use Rattle.its_model.specs.model.Programs.{Name as NameBytes, Program}
use Rattle.bound_text.proofs.Numerals.{digits_pass, decimal_proper}
use Rattle.text_grammar.specs.text_core.Faults.{Among}
use Rattle.text_grammar.specs.text_core.Names.{begins_name, continues_name}
use Rattle.text_grammar.specs.text_core.Prefixes.{prefix}
use Rattle.text_grammar.specs.text_core.Bytes.{has_leading_zero, value_up_to}
use Rattle.text_core.proofs.PrefixLaws.{Stops, prefix-append}
use Rattle.text_grammar.specs.declared.symbol.Symbol.{Symbol}
use Rattle.text_grammar.specs.declared.symbol.Symbol.TheVariants as item
use Rattle.text_grammar.specs.Grammars.{alternatives}
use Rattle.cert_lexer.specs.declared.piece.Piece.{Piece}
use Rattle.cert_lexer.specs.declared.piece.Piece.TheVariants.{Name, Number, Sign as ASign, Wrong}
use Rattle.cert_lexer.specs.declared.piece.Sign.TheVariants as sign
use Rattle.cert_lexer.specs.declared.piece.Mode.{Mode}
use Rattle.cert_lexer.specs.declared.piece.Mode.TheVariants as mode
use Rattle.cert_lexer.specs.Grammar.{class_of_number, class_of_word, proof_grammar}
use Rattle.cert_lexer.specs.Lexing.{digits_lexeme, lexeme, lexer_of, mode_with, name_lexeme, place_lexeme}
use Rattle.cert_lexer.specs.Lexing.{plain_lexeme, sign_at, symbol_names, symbol_of, word_of}
use Rattle.cert_text.specs.declared.phase.Next.TheVariants as next
use Rattle.cert_text.specs.NumberFaults.{fault_of_piece}
use Rattle.cert_text.specs.Remembered.{State}
use Rattle.cert_text.proofs.Along.{Along, IsCutOff, in_mode, makes, reads}

-- where numbers and signs are read: with nothing open, or in a list of shut places
pub data Within : Type 0 where
  Bare : Within
  Shut : Within

abbrev pub mode_in : Within → Mode
mode_in Bare = mode.Plain
mode_in Shut = mode.InShut

-- how a node ends: with a bracket, a bound, or another piece
pub data Ending : Type 0 where
  AtPlain : Ending
  AtClosed : Ending
  AtBound : Ending

abbrev pub mode_at : Ending → Mode
mode_at AtPlain = mode.Plain
mode_at AtClosed = mode.Closed
mode_at AtBound = mode.InBound 0 0

-- a sign is cut from its byte
abbrev pub byte_cut : (p : Program) (m : Mode) (q : Piece) (b : ℕ) (rest : List ℕ)
    → (lexer_of p).lexeme_in m b rest ≡ record { piece = Some q; len = 1 } → IsCutOff p m q (b ∷ rest) rest
byte_cut p m q b rest e = record { first = b; others = rest; some = 0; begins = refl; cut = e; behind = refl }

module _ {p : Program} {ss : List Symbol} {s : State} {rest : List ℕ} {Q : State → Type 0} where
  -- the byte of a sign is read as that sign
  pub blank : (x : Within) → Along p ss s (mode_in x) rest Q
      → Along p (item.Piece 32 ∷ ss) s (mode_in x) (32 ∷ rest) Q
  blank Bare more = reads (ASign sign.Blank) refl (byte_cut p mode.Plain (ASign sign.Blank) 32 rest refl) more
  blank Shut more = reads (ASign sign.Blank) refl (byte_cut p mode.InShut (ASign sign.Blank) 32 rest refl) more

  pub opens : (x : Within) → Along p ss s (mode_in x) rest Q
      → Along p (item.Piece 34 ∷ ss) s (mode_in x) (91 ∷ rest) Q
  opens Bare more = reads (ASign sign.OpenSquare) refl (byte_cut p mode.Plain (ASign sign.OpenSquare) 91 rest refl) more
  opens Shut more = reads (ASign sign.OpenSquare) refl (byte_cut p mode.InShut (ASign sign.OpenSquare) 91 rest refl) more

  pub closes : (x : Within) → Along p ss s mode.Plain rest Q
      → Along p (item.Piece 35 ∷ ss) s (mode_in x) (93 ∷ rest) Q
  closes Bare more = reads (ASign sign.CloseSquare) refl (byte_cut p mode.Plain (ASign sign.CloseSquare) 93 rest refl) more
  closes Shut more = reads (ASign sign.CloseSquare) refl (byte_cut p mode.InShut (ASign sign.CloseSquare) 93 rest refl) more

  pub minus : (x : Within) → Along p ss (record s { negative = true }) (mode_in x) rest Q
      → Along p (item.Piece 42 ∷ ss) s (mode_in x) (45 ∷ rest) Q
  minus Bare more = reads (ASign sign.Minus) refl (byte_cut p mode.Plain (ASign sign.Minus) 45 rest refl) more
  minus Shut more = reads (ASign sign.Minus) refl (byte_cut p mode.InShut (ASign sign.Minus) 45 rest refl) more

  pub semicolon : Along p ss s mode.Plain rest Q → Along p (item.Piece 40 ∷ ss) s mode.Plain (59 ∷ rest) Q
  semicolon more = reads (ASign sign.Semicolon) refl (byte_cut p mode.Plain (ASign sign.Semicolon) 59 rest refl) more

  pub dot : Along p ss s mode.Plain rest Q → Along p (item.Piece 41 ∷ ss) s mode.Plain (46 ∷ rest) Q
  dot more = reads (ASign sign.Dot) refl (byte_cut p mode.Plain (ASign sign.Dot) 46 rest refl) more

  pub bracket : Along p ss s mode.Plain rest Q → Along p (item.Piece 38 ∷ ss) s mode.Plain (40 ∷ rest) Q
  bracket more = reads (ASign sign.Open) refl (byte_cut p mode.Plain (ASign sign.Open) 40 rest refl) more

  pub brace : Along p ss s mode.Plain rest Q → Along p (item.Piece 36 ∷ ss) s mode.Plain (123 ∷ rest) Q
  brace more = reads (ASign sign.OpenBrace) refl (byte_cut p mode.Plain (ASign sign.OpenBrace) 123 rest refl) more

  pub feed : Along p ss s mode.Plain rest Q → Along p (item.Piece 33 ∷ ss) s mode.Plain (10 ∷ rest) Q
  feed more = reads (ASign sign.LineFeed) refl (byte_cut p mode.Plain (ASign sign.LineFeed) 10 rest refl) more

  -- the byte after a node is read as its sign
  pub feed_at : (x : Ending) → Along p ss s mode.Plain rest Q → Along p (item.Piece 33 ∷ ss) s (mode_at x) (10 ∷ rest) Q
  feed_at AtPlain more = reads (ASign sign.LineFeed) refl (byte_cut p mode.Plain (ASign sign.LineFeed) 10 rest refl) more
  feed_at AtClosed more = reads (ASign sign.LineFeed) refl (byte_cut p mode.Closed (ASign sign.LineFeed) 10 rest refl) more
  feed_at AtBound more =
      reads (ASign sign.LineFeed) refl (byte_cut p (mode.InBound 0 0) (ASign sign.LineFeed) 10 rest refl) more

  pub semicolon_at : (x : Ending) → Along p ss s mode.Plain rest Q
      → Along p (item.Piece 40 ∷ ss) s (mode_at x) (59 ∷ rest) Q
  semicolon_at AtPlain more =
      reads (ASign sign.Semicolon) refl (byte_cut p mode.Plain (ASign sign.Semicolon) 59 rest refl) more
  semicolon_at AtClosed more =
      reads (ASign sign.Semicolon) refl (byte_cut p mode.Closed (ASign sign.Semicolon) 59 rest refl) more
  semicolon_at AtBound more =
      reads (ASign sign.Semicolon) refl (byte_cut p (mode.InBound 0 0) (ASign sign.Semicolon) 59 rest refl) more

  pub brace_at : (x : Ending) → Along p ss s mode.Plain rest Q
      → Along p (item.Piece 37 ∷ ss) s (mode_at x) (125 ∷ rest) Q
  brace_at AtPlain more =
      reads (ASign sign.CloseBrace) refl (byte_cut p mode.Plain (ASign sign.CloseBrace) 125 rest refl) more
  brace_at AtClosed more =
      reads (ASign sign.CloseBrace) refl (byte_cut p mode.Closed (ASign sign.CloseBrace) 125 rest refl) more
  brace_at AtBound more =
      reads (ASign sign.CloseBrace) refl (byte_cut p (mode.InBound 0 0) (ASign sign.CloseBrace) 125 rest refl) more

  pub bracket_at : (x : Ending) → Along p ss s mode.Closed rest Q
      → Along p (item.Piece 39 ∷ ss) s (mode_at x) (41 ∷ rest) Q
  bracket_at AtPlain more = reads (ASign sign.Close) refl (byte_cut p mode.Plain (ASign sign.Close) 41 rest refl) more
  bracket_at AtClosed more = reads (ASign sign.Close) refl (byte_cut p mode.Closed (ASign sign.Close) 41 rest refl) more
  bracket_at AtBound more =
      reads (ASign sign.Close) refl (byte_cut p (mode.InBound 0 0) (ASign sign.Close) 41 rest refl) more

  -- a blank after a closing bracket, and after `to`, is read
  pub blank_closed : Along p ss s mode.ClosedBlank rest Q
      → Along p (item.Piece 32 ∷ ss) s mode.Closed (32 ∷ rest) Q
  blank_closed more = reads (ASign sign.Blank) refl (byte_cut p mode.Closed (ASign sign.Blank) 32 rest refl) more

  pub blank_to : Along p ss s (mode.InBound 0 0) rest Q → Along p (item.Piece 32 ∷ ss) s mode.To (32 ∷ rest) Q
  blank_to more = reads (ASign sign.Blank) refl (byte_cut p mode.To (ASign sign.Blank) 32 rest refl) more

-- a name is cut off before a byte that doesn't continue it
name_lexed : (symbols : List NameBytes) (b : ℕ) (others rest : List ℕ) → begins_name b ≡ true
    → list_all continues_name others ≡ true → Stops continues_name rest
    → plain_lexeme symbols b (others ++ rest) ≡ name_lexeme symbols (b ∷ others)
name_lexed symbols b others rest begins all stops =
    ap (λ (v : Bool). cond v (name_lexeme symbols (b ∷ prefix continues_name (others ++ rest)))
    (cond (is_ascii_digit b) (digits_lexeme (b ∷ prefix is_ascii_digit (others ++ rest))) (lexeme (sign_at b) 1))) begins
    ∙ ap (λ (xs : List ℕ). name_lexeme symbols (b ∷ xs)) (prefix-append continues_name others rest all stops)

-- the piece of a name, given its bytes
abbrev pub named : Program → ℕ → List ℕ → Piece
named p b others = Name (word_of (b ∷ others)) (symbol_of (symbol_names p) (b ∷ others))

pub name_cut : (p : Program) (b : ℕ) (others rest : List ℕ) → begins_name b ≡ true
    → list_all continues_name others ≡ true → Stops continues_name rest
    → IsCutOff p mode.Plain (named p b others) (b ∷ (others ++ rest)) rest
name_cut p b others rest begins all stops = record {
  first = b;
  others = others ++ rest;
  some = length others;
  begins = refl;
  cut = name_lexed (symbol_names p) b others rest begins all stops;
  behind = drop-append_seam others rest;
}

-- the bytes of a word are read as that word
pub word : {p : Program} {ss : List Symbol} {s : State} {rest : List ℕ} {Q : State → Type 0} (b : ℕ) (others : List ℕ)
    → begins_name b ≡ true → list_all continues_name others ≡ true → Stops continues_name rest
    → fault_of_piece p s (named p b others) ≡ None
    → Along p ss (record s { symbol = symbol_of (symbol_names p) (b ∷ others); coming = next.Nothing })
    (mode_with mode.Plain (named p b others)) rest Q
    → Along p (item.Piece (class_of_word (word_of (b ∷ others))) ∷ ss) s mode.Plain (b ∷ (others ++ rest)) Q
word {p} {ss} {s} {rest} b others begins all stops none more =
    reads (named p b others) none (name_cut p b others rest begins all stops) more

-- `to` after a closing bracket and a blank is read
pub to_cut : (p : Program) (rest : List ℕ) → Stops continues_name rest
    → IsCutOff p mode.ClosedBlank (named p 116 (codes "o")) (116 ∷ 111 ∷ rest) rest
to_cut p rest stops = record {
  first = 116;
  others = 111 ∷ rest;
  some = 1;
  begins = refl;
  cut = name_lexed (symbol_names p) 116 (codes "o") rest refl refl stops;
  behind = refl;
}

-- the digits of a number
pub record Digits (n : ℕ) : Type 0 where
  pub first : ℕ
  pub others : List ℕ
  pub bytes : decimal n ≡ first ∷ others
  pub digit : is_ascii_digit first ≡ true
  pub all : list_all is_ascii_digit others ≡ true
  pub proper : has_leading_zero (first ∷ others) ≡ false
  pub value : digits_value 10 (first ∷ others) ≡ n

pub digits_of : (n : ℕ) → n < 2 ^ 127 → Digits n
digits_of n small = go (decimal n) d.0.0 (digits_pass (decimal n) d.0.1) refl
  where
    d : IsNumeral 10 (decimal n) × (digits_value 10 (decimal n) ≡ n)
    d = decimal_is_IsNumeral_wide n (omega (arith, small))

    go : (ds : List ℕ) → 0 < length ds → list_all is_ascii_digit ds ≡ true → decimal n ≡ ds → Digits n
    go [] some all e = absurd (omega (arith, some))
    go (c ∷ cs) some all e =
        let t = and_parts (is_ascii_digit c) (list_all is_ascii_digit cs) all in record {
          first = c;
          others = cs;
          bytes = e;
          digit = t.0;
          all = t.1;
          proper = ap has_leading_zero (sym e) ∙ decimal_proper n (omega (arith, small));
          value = ap (digits_value 10) (sym e) ∙ d.1;
        }

-- a digit begins no name
digit_no_name : (c : ℕ) → is_ascii_digit c ≡ true → begins_name c ≡ false
digit_no_name c h = grind (arith, nat_tests)

-- digits are cut before a byte that is no digit
number_lexed : (symbols : List NameBytes) (n : ℕ) (d : Digits n) (rest : List ℕ) → n < 2 ^ 127 → Stops is_ascii_digit rest
    → plain_lexeme symbols d.first (d.others ++ rest) ≡ record { piece = Some (Number n); len = suc (length d.others) }
number_lexed symbols n d rest small stops =
    ap (λ (v : Bool). cond v (name_lexeme symbols (d.first ∷ prefix continues_name (d.others ++ rest)))
    (cond (is_ascii_digit d.first) (digits_lexeme (d.first ∷ prefix is_ascii_digit (d.others ++ rest)))
    (lexeme (sign_at d.first) 1))) (digit_no_name d.first d.digit)
    ∙ ap (λ (v : Bool). cond v (digits_lexeme (d.first ∷ prefix is_ascii_digit (d.others ++ rest)))
    (lexeme (sign_at d.first) 1)) d.digit
    ∙ ap (λ (xs : List ℕ). digits_lexeme (d.first ∷ xs)) (prefix-append is_ascii_digit d.others rest d.all stops)
    ∙ ap (λ (v : Bool). lexeme (cond v Wrong (Number (value_up_to (2 ^ 127) (d.first ∷ d.others)))) (length (d.first ∷ d.others))) d.proper
    ∙ ap (λ (k : ℕ). lexeme (Number k) (length (d.first ∷ d.others)))
    (ap (λ (k : ℕ). min k (2 ^ 127)) d.value ∙ (let k : min n (2 ^ 127) ≡ n = omega (arith, small) in k))

number_cut : (p : Program) (x : Within) (n : ℕ) (rest : List ℕ) → n < 2 ^ 127 → Stops is_ascii_digit rest
    → IsCutOff p (mode_in x) (Number n) (decimal n ++ rest) rest
number_cut p x n rest small stops = go x (digits_of n small)
  where
    go : (x : Within) → Digits n → IsCutOff p (mode_in x) (Number n) (decimal n ++ rest) rest
    go Bare d = record {
      first = d.first;
      others = d.others ++ rest;
      some = length d.others;
      begins = ap (λ (bs : List ℕ). bs ++ rest) d.bytes;
      cut = number_lexed (symbol_names p) n d rest small stops;
      behind = drop-append_seam d.others rest;
    }
    go Shut d = record {
      first = d.first;
      others = d.others ++ rest;
      some = length d.others;
      begins = ap (λ (bs : List ℕ). bs ++ rest) d.bytes;
      cut =
          ap (λ (v : Bool). cond v (place_lexeme (symbol_names p) (d.first ∷ prefix continues_name (d.others ++ rest)))
          (plain_lexeme (symbol_names p) d.first (d.others ++ rest))) (digit_no_name d.first d.digit)
          ∙ number_lexed (symbol_names p) n d rest small stops;
      behind = drop-append_seam d.others rest;
    }

-- the class of a number is one of the classes of numbers, and that of a number from 1 on one of those of positive
-- numbers
number_class : (n : ℕ) → Among (item.Piece (class_of_number n) ∷ []) (alternatives proof_grammar.rules 8)
number_class n = go (n == 0) (n == 1) (n == 2)
  where
    go : (a b c : Bool)
        → Among (item.Piece (cond a 28 (cond b 29 (cond c 30 31))) ∷ []) (alternatives proof_grammar.rules 8)
    go true b c = inl refl
    go false true c = inr (inl refl)
    go false false true = inr (inr (inl refl))
    go false false false = inr (inr (inr (inl refl)))

positive_class : (n : ℕ) → 1 ≤ n → Among (item.Piece (class_of_number n) ∷ []) (alternatives proof_grammar.rules 20)
positive_class n some =
    let other : (n == 0) ≡ false = grind (arith, nat_tests) in
    subst (λ (v : Bool). Among (item.Piece (cond v 28 (cond (n == 1) 29 (cond (n == 2) 30 31))) ∷ [])
    (alternatives proof_grammar.rules 20)) (sym other) (go (n == 1) (n == 2))
  where
    go : (b c : Bool) → Among (item.Piece (cond b 29 (cond c 30 31)) ∷ []) (alternatives proof_grammar.rules 20)
    go true c = inl refl
    go false true = inr (inl refl)
    go false false = inr (inr (inl refl))

-- the mode after a number is that before it
number_mode : (x : Within) (n : ℕ) → mode_with (mode_in x) (Number n) ≡ mode_in x
number_mode Bare n = refl
number_mode Shut n = refl

module _ {p : Program} {ss : List Symbol} {s : State} {rest : List ℕ} {Q : State → Type 0} (x : Within) (n : ℕ)
    (small : n < 2 ^ 127) (stops : Stops is_ascii_digit rest) (none : fault_of_piece p s (Number n) ≡ None) where
  -- the digits of a number are read as it; and those of a number from 1 on
  pub number : Along p ss (record s { number = n; coming = next.Nothing }) (mode_in x) rest Q
      → Along p (item.Made 8 ∷ ss) s (mode_in x) (decimal n ++ rest) Q
  number more =
      makes 8 (item.Piece (class_of_number n) ∷ []) (number_class n)
      (reads (Number n) none (number_cut p x n rest small stops) (in_mode (number_mode x n) more))

  pub positive : 1 ≤ n → Along p ss (record s { number = n; coming = next.Nothing }) (mode_in x) rest Q
      → Along p (item.Made 20 ∷ ss) s (mode_in x) (decimal n ++ rest) Q
  positive some more =
      makes 20 (item.Piece (class_of_number n) ∷ []) (positive_class n some)
      (reads (Number n) none (number_cut p x n rest small stops) (in_mode (number_mode x n) more))
