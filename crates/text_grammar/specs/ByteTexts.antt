-- Texts whose pieces are single bytes, with decimal numbers in them.
use Rattle.std.specs.Prelude.{◌≡◌, ℕ, zero, suc, ◌+◌, ◌*◌, ◌-◌, ◌^◌, ◌<◌, ◌≤◌, min, Bool, true, false, ◌==◌, nat_lt}
use Rattle.std.specs.Prelude.{if◌then◌else◌, ⊤}
use Rattle.std.specs.Prelude.{ℤ, pos, negsuc, neg_ℤ, unsigned_abs, List, [], ◌∷◌, ◌++◌, length, Option, Some, None}
use Rattle.std.specs.Prelude.{slice_get}
use Rattle.std.specs.Char.{is_ascii_digit}
use Rattle.std.specs.Fmt.{decimal, signed_decimal}
use Rattle.std.proofs.Common.{lit<, arith}
use Rattle.text_core.specs.Choices.{when}
use Rattle.text_core.specs.Tokens.{Token, Lexeme, Lexer, LexesWithin}
use Rattle.text_grammar.specs.declared.symbol.Symbol.{Symbol}
use Rattle.text_grammar.specs.declared.symbol.Symbol.TheVariants.{Piece, Made, Mark}
use Rattle.text_grammar.specs.declared.token_stream.OneMode.{OneMode}
use Rattle.text_grammar.specs.declared.numeral.NumberContext.{NumberContext}
use Rattle.text_grammar.specs.declared.numeral.NumberContext.TheVariants.{Words, Natural as InNatural, Signed as InSigned}
use Rattle.text_grammar.specs.declared.numeral.NumberContext.TheVariants.{Line as InLine}
use Rattle.text_grammar.specs.Grammars.{Grammar, Event, Read, Did, alternatives}
use Rattle.text_grammar.specs.Marks.{lexer_of, tokens_of}
use Rattle.text_grammar.specs.Texts.{Text}
use Rattle.text_grammar.specs.Folds.{Fold, folded}
use Rattle.text_grammar.specs.Parts.{Part, Says, Does, Puts, Wholes}

-- each byte is a piece
abbrev pub byte_at : ℕ → List ℕ → Lexeme (Option ℕ)
byte_at b bytes = record { piece = Some b; len = 1 }

abbrev pub bytes_lexer : Lexer ℕ OneMode
bytes_lexer = lexer_of byte_at

pub bytes_within : (mode : OneMode) → LexesWithin (bytes_lexer.lexeme_in mode)
bytes_within mode = record { each = λ b bytes. (lit< tt, omega arith) }

abbrev pub tokens : List ℕ → List (Token ℕ)
tokens bytes = tokens_of byte_at bytes

-- the position of a byte in a list, or the list's length if it isn't in it
abbrev pub position_of : List ℕ → ℕ → ℕ
position_of [] b = 0
position_of (c ∷ cs) b = if b == c then 0 else suc (position_of cs b)

-- the class of a byte: `0`, `1`, `2` to `9`, `-`, a blank, a line feed, each letter of the words, and any other byte
abbrev pub class_of : List ℕ → ℕ → ℕ
class_of letters b =
    if b == 48 then 0 else if b == 49 then 1 else if is_ascii_digit b then 2 else if b == 45 then 3
    else if b == 32 then 4 else if b == 10 then 5 else suc (suc (suc (suc (suc (suc (position_of letters b))))))

-- the one byte of a class that contains only one
abbrev pub only : List ℕ → ℕ → Option ℕ
only letters zero = Some 48
only letters (suc zero) = Some 49
only letters (suc (suc zero)) = None
only letters (suc (suc (suc zero))) = Some 45
only letters (suc (suc (suc (suc zero)))) = Some 32
only letters (suc (suc (suc (suc (suc zero))))) = Some 10
only letters (suc (suc (suc (suc (suc (suc k)))))) = slice_get letters k

-- a sample byte of each class
abbrev pub byte_or : ℕ → Option ℕ → ℕ
byte_or b None = b
byte_or b (Some c) = c

abbrev pub sample : List ℕ → ℕ → ℕ
sample letters c = byte_or (if c == 2 then 50 else 0) (only letters c)

-- the grammar of bytes with these letters and rules
abbrev pub bytes_grammar : List ℕ → List (List (List Symbol)) → ℕ → Grammar ℕ
bytes_grammar letters rules rounds = record {
  rules = rules;
  classes = 7 + length letters;
  class_of = class_of letters;
  sample = sample letters;
  rounds = rounds;
}

-- the rules of numbers, and those of lines of values
abbrev pub value_rule : List (List Symbol)
value_rule = (Mark 0 ∷ Piece 3 ∷ Made 4 ∷ Mark 1 ∷ []) ∷ (Mark 0 ∷ Made 3 ∷ Mark 1 ∷ []) ∷ []

abbrev pub natural_rule : List (List Symbol)
natural_rule = (Mark 3 ∷ Made 3 ∷ Mark 2 ∷ []) ∷ []

abbrev pub number_rule : List (List Symbol)
number_rule = (Piece 0 ∷ []) ∷ (Made 4 ∷ []) ∷ []

abbrev pub positive_rule : List (List Symbol)
positive_rule = (Piece 1 ∷ Made 5 ∷ []) ∷ (Piece 2 ∷ Made 5 ∷ []) ∷ []

abbrev pub digits_rule : List (List Symbol)
digits_rule = (Piece 0 ∷ Made 5 ∷ []) ∷ (Piece 1 ∷ Made 5 ∷ []) ∷ (Piece 2 ∷ Made 5 ∷ []) ∷ [] ∷ []

abbrev pub line_rule : List (List Symbol)
line_rule = (Mark 4 ∷ Made 7 ∷ []) ∷ []

abbrev pub values_rule : List (List Symbol)
values_rule = (Piece 4 ∷ Made 1 ∷ Made 7 ∷ []) ∷ (Piece 5 ∷ Mark 5 ∷ []) ∷ []

-- the rule of a signed number that isn't in a line of values
abbrev pub signed_rule : List (List Symbol)
signed_rule = (Mark 6 ∷ Piece 3 ∷ Made 4 ∷ Mark 7 ∷ []) ∷ (Mark 6 ∷ Made 3 ∷ Mark 7 ∷ []) ∷ []

-- the rules of numbers come directly after the rule of the text
pub record HasNumbers (rules : List (List (List Symbol))) : Type 0 where
  pub value : alternatives rules 1 ≡ value_rule
  pub natural : alternatives rules 2 ≡ natural_rule
  pub number : alternatives rules 3 ≡ number_rule
  pub positive : alternatives rules 4 ≡ positive_rule
  pub digits : alternatives rules 5 ≡ digits_rule
  pub line : alternatives rules 6 ≡ line_rule
  pub values : alternatives rules 7 ≡ values_rule
  pub signed : alternatives rules 8 ≡ signed_rule

-- the number that is being spelled: its sign, its value up to 2^64, and how many bytes of it have been read, up to
-- 2^64-1
pub record Numeral : Type 0 where
  pub negative : Bool
  pub number : ℕ
  pub spelled : ℕ

abbrev pub fresh : Numeral
fresh = record { negative = false; number = 0; spelled = 0 }

-- one more, up to 2^64-1
abbrev pub one_more : ℕ → ℕ
one_more n = min (n + 1) (2 ^ 64 - 1)

-- the number being spelled after one more byte: digits and `-` belong to it, and at any other byte a new one begins
abbrev pub with_byte : ℕ → Numeral → Numeral
with_byte b m =
    if is_ascii_digit b then record m { number = min (m.number * 10 + (b - 48)) (2 ^ 64); spelled = one_more m.spelled }
    else if b == 45 then record m { negative = true; spelled = one_more m.spelled }
    else fresh

-- a number with its sign
abbrev pub with_sign : Bool → ℕ → ℤ
with_sign negative n = if negative then neg_ℤ (pos n) else pos n

abbrev pub signed : Numeral → ℤ
signed m = with_sign m.negative m.number

-- the greatest absolute value that a value may have
abbrev pub line_value_limit : ℕ
line_value_limit = 2 ^ 63 - 1

-- each value is at most 2^63-1 in absolute value
abbrev pub AreSmall : List ℤ → Type 0
AreSmall [] = ⊤
AreSmall (v ∷ vs) = (unsigned_abs v ≤ line_value_limit) × AreSmall vs

-- each value has at most 64 digits, as all values of 128 bits have
abbrev pub AreShort : List ℤ → Type 0
AreShort [] = ⊤
AreShort (v ∷ vs) = (unsigned_abs v < 10 ^ 64) × AreShort vs

-- the text of a line of values, each after a blank, up to its line feed
abbrev pub line_text : List ℤ → List ℕ
line_text [] = 10 ∷ []
line_text (v ∷ vs) = 32 ∷ (signed_decimal v ++ line_text vs)

-- a text in bytes: the letters of its words, its rules and the rounds of its table; its state, and how natural numbers,
-- signed numbers, lines of values and its own marks change it; the fault of a natural number, of a signed number, of a
-- line with this many values (at its line feed), and of another byte; the tree at the end; and the order of the kinds
-- of faults, with the kinds of a byte that can't follow and of a value that is too large
pub record ByteText (S T K : Type 0) : Type 0 where
  pub letters : List ℕ
  pub rules : List (List (List Symbol))
  pub rounds : ℕ
  pub begun : S
  pub natural : ℕ → S → S
  pub signed : ℤ → S → S
  pub line : List ℤ → S → S
  pub done : ℕ → S → S
  pub fault_of_natural : S → ℕ → Option K
  pub fault_of_signed : S → ℤ → Option K
  pub fault_of_line : S → ℕ → Option K
  pub fault_of_byte : S → ℕ → Option K
  pub tree : S → T
  pub number : K → ℕ
  pub syntax : K
  pub too_large : K

-- the state of reading: the text's own state, the number being spelled, its context, and the values of the line so far
pub record Spelling (S : Type 0) : Type 0 where
  pub own : S
  pub numeral : Numeral
  pub within : NumberContext
  pub values : List ℤ

-- a part that is printed as a whole: a value, a natural number, a signed number or a line of values
pub data Numbered : Type 0 where
  Value : ℤ → Numbered
  Natural : ℕ → Numbered
  Signed : ℤ → Numbered
  Line : List ℤ → Numbered

-- the events of reading bytes
abbrev pub reads : List ℕ → List (Event ℕ)
reads [] = []
reads (b ∷ bytes) = Read b ∷ reads bytes

-- bytes as parts, before other parts
abbrev pub says : List ℕ → List (Part ℕ Numbered) → List (Part ℕ Numbered)
says [] xs = xs
says (b ∷ bytes) xs = Says b ∷ says bytes xs

-- the parts of a line of values after the mark that begins it
abbrev pub values_parts : List ℤ → List (Part ℕ Numbered)
values_parts [] = Says 10 ∷ Does 5 ∷ []
values_parts (v ∷ vs) = Says 32 ∷ Puts (Value v) ∷ values_parts vs

-- the events of a value; those of a line of values after the mark that begins it
abbrev pub value_events : ℤ → List (Event ℕ)
value_events z = Did 0 ∷ (reads (signed_decimal z) ++ Did 1 ∷ [])

abbrev pub values_events : List ℤ → List (Event ℕ)
values_events [] = Read 10 ∷ Did 5 ∷ []
values_events (v ∷ vs) = Read 32 ∷ (value_events v ++ values_events vs)

-- the events of a part that is printed as a whole; its text
abbrev pub number_events : Numbered → List (Event ℕ)
number_events (Value z) = value_events z
number_events (Natural n) = Did 3 ∷ (reads (decimal n) ++ Did 2 ∷ [])
number_events (Signed z) = Did 6 ∷ (reads (signed_decimal z) ++ Did 7 ∷ [])
number_events (Line vs) = Did 4 ∷ values_events vs

abbrev pub number_text : Numbered → List ℕ
number_text (Value z) = signed_decimal z
number_text (Natural n) = decimal n
number_text (Signed z) = signed_decimal z
number_text (Line vs) = line_text vs

module _ {S T K : Type 0} (x : ByteText S T K) where
  -- a value begins at mark 0 and ends at mark 1, a natural number at marks 3 and 2, a line of values at marks 4 and 5,
  -- and a signed number at marks 6 and 7; other marks are the text's own
  abbrev pub done_mark : ℕ → Spelling S → Spelling S
  done_mark m s =
      if m == 0 then record s { numeral = fresh }
      else if m == 1 then record s { numeral = fresh; values = s.values ++ signed s.numeral ∷ [] }
      else if m == 2 then record s { own = x.natural s.numeral.number s.own; numeral = fresh; within = Words }
      else if m == 3 then record s { numeral = fresh; within = InNatural }
      else if m == 4 then record s { numeral = fresh; within = InLine; values = [] }
      else if m == 5 then record { own = x.line s.values s.own; numeral = fresh; within = Words; values = [] }
      else if m == 6 then record s { numeral = fresh; within = InSigned }
      else if m == 7 then record s { own = x.signed (signed s.numeral) s.own; numeral = fresh; within = Words }
      else record s { own = x.done m s.own }

  -- the fault of a number in its context: as a natural number, as a signed number, or as a value that is too large
  abbrev pub fault_of_in : NumberContext → S → Bool → ℕ → Option K
  fault_of_in InNatural s negative n = x.fault_of_natural s n
  fault_of_in InSigned s negative n = x.fault_of_signed s (with_sign negative n)
  fault_of_in InLine s negative n = when (nat_lt line_value_limit n) x.too_large
  fault_of_in Words s negative n = when (nat_lt line_value_limit n) x.too_large

  abbrev pub fault_of_number : Spelling S → ℕ → Option K
  fault_of_number s n = fault_of_in s.within s.own s.numeral.negative n

  -- the fault of a line feed: that of the line that it ends, or that of the byte
  abbrev pub fault_of_feed : NumberContext → S → ℕ → Option K
  fault_of_feed InLine s n = x.fault_of_line s n
  fault_of_feed InNatural s n = x.fault_of_byte s 10
  fault_of_feed InSigned s n = x.fault_of_byte s 10
  fault_of_feed Words s n = x.fault_of_byte s 10

  abbrev pub fault_of_other : NumberContext → S → ℕ → ℕ → Option K
  fault_of_other w s n b = if b == 10 then fault_of_feed w s n else x.fault_of_byte s b

  -- the fault of a byte: that of the number with one more digit, that of a line, or that of the byte itself
  abbrev pub other_faults_of_next : Spelling S → ℕ → Option K
  other_faults_of_next s b =
      if is_ascii_digit b then fault_of_number s (s.numeral.number * 10 + (b - 48))
      else fault_of_other s.within s.own (length s.values) b

  -- the fold of the text over its events
  abbrev pub fold_of : Fold ℕ (Spelling S) T K
  fold_of = record {
    begun = record { own = x.begun; numeral = fresh; within = Words; values = [] };
    read = λ b s. record s { numeral = with_byte b s.numeral };
    done = done_mark;
    reported_fault = other_faults_of_next;
    position = λ s t. if is_ascii_digit t.piece then t.at - s.numeral.spelled else t.at;
    floor = λ s at. at - s.numeral.spelled;
    tree = λ s. x.tree s.own;
    number = x.number;
    stop_kind = λ piece. x.syntax;
  }

  abbrev pub grammar_of : Grammar ℕ
  grammar_of = bytes_grammar x.letters x.rules x.rounds

  -- the text as a text of its grammar
  abbrev pub texts_of : Text ℕ T K
  texts_of = folded fold_of grammar_of

  -- the `-` of a negative number has no fault
  abbrev pub MinusHasNoFault : S → ℤ → Type 0
  MinusHasNoFault s (pos n) = ⊤
  MinusHasNoFault s (negsuc n) = x.fault_of_byte s 45 ≡ None

  -- the blank before each value of a line, and the `-` of a negative value, have no fault
  abbrev pub BytesHaveNoFault : S → List ℤ → Type 0
  BytesHaveNoFault s [] = ⊤
  BytesHaveNoFault s (v ∷ vs) = (x.fault_of_byte s 32 ≡ None) × MinusHasNoFault s v × BytesHaveNoFault s vs

  -- the fault of a value in its context, apart from that of its `-`
  abbrev pub fault_of_value : Spelling S → ℤ → Option K
  fault_of_value s (pos n) = fault_of_in s.within s.own false n
  fault_of_value s (negsuc n) = fault_of_in s.within s.own true (suc n)

  -- a part printed as a whole has no fault: a value is small, a natural or signed number has no fault, and the values
  -- of a line are small and their number has no fault; no `-` and no blank in it has a fault
  abbrev pub NumberHasNoFault : Spelling S → Numbered → Type 0
  NumberHasNoFault s (Value z) = MinusHasNoFault s.own z × (fault_of_value s z ≡ None)
  NumberHasNoFault s (Natural n) = x.fault_of_natural s.own n ≡ None
  NumberHasNoFault s (Signed z) = MinusHasNoFault s.own z × (x.fault_of_signed s.own z ≡ None)
  NumberHasNoFault s (Line vs) = AreSmall vs × BytesHaveNoFault s.own vs × (x.fault_of_line s.own (length vs) ≡ None)

  -- the state after a part that is printed as a whole
  abbrev pub put_number : Numbered → Spelling S → Spelling S
  put_number (Value z) s = record s { numeral = fresh; values = s.values ++ z ∷ [] }
  put_number (Natural n) s = record s { own = x.natural n s.own; numeral = fresh; within = Words }
  put_number (Signed z) s = record s { own = x.signed z s.own; numeral = fresh; within = Words }
  put_number (Line vs) s = record { own = x.line vs s.own; numeral = fresh; within = Words; values = [] }

  abbrev pub numbers_of : Wholes ℕ (Spelling S) Numbered
  numbers_of = record { events = number_events; text = number_text; Fine = NumberHasNoFault; put = put_number }

  -- a natural number without a fault is below 2^64, and each smaller one from 1 on has no fault either; the same holds
  -- of the absolute values of signed numbers with the same sign
  pub record IsBounded : Type 0 where
    pub small : (s : S) (n : ℕ) → x.fault_of_natural s n ≡ None → n < 2 ^ 64
    pub below : (s : S) (m n : ℕ) → 1 ≤ m → m ≤ n → x.fault_of_natural s n ≡ None → x.fault_of_natural s m ≡ None
    pub small_signed : (s : S) (negative : Bool) (n : ℕ) → x.fault_of_signed s (with_sign negative n) ≡ None → n < 2 ^ 64
    pub below_signed : (s : S) (negative : Bool) (m n : ℕ) → 1 ≤ m → m ≤ n
        → x.fault_of_signed s (with_sign negative n) ≡ None → x.fault_of_signed s (with_sign negative m) ≡ None
