-- Pieces that are read by their bytes: signs, words, names and numbers.
use Rattle.std.proofs.Common.{◌≡◌, ℕ, suc, ◌+◌, ◌-◌, ◌<◌, ◌≤◌, ◌^◌, min, Bool, true, false, cond, List, [], ◌∷◌, ◌++◌, length}
use Rattle.std.proofs.Common.{take, drop, None, refl, ap, sym, subst, ◌∙◌, arith, inl, inr, length-append}
use Rattle.std.specs.Prelude.{◌==◌}
use Rattle.std.specs.List.{list_all}
use Rattle.std.specs.Fmt.{decimal}
use Rattle.std.specs.Char.{is_ascii_digit}
use Rattle.std.specs.Str.Parse.{IsNumeral, digits_value}
use Rattle.std.proofs.Math.Seq.{drop-append_seam, take-append_seam}
use Rattle.std.proofs.lemmas.Fmt.{decimal_is_IsNumeral_wide}
use Rattle.std.proofs.lemmas.Bool.{and_parts}
use Rattle.std.proofs.lemmas.Bool.Decides.{nat_tests}
use Rattle.its_model.specs.model.Programs.{Name as NameBytes, Program}
use Rattle.its_model.specs.linear_forms.Limits.{certificate_limit}
use Rattle.bound_text.proofs.Numerals.{digits_pass, decimal_proper}
use Rattle.text_grammar.specs.text_core.Faults.{Among}
use Rattle.text_grammar.specs.text_core.Names.{IsName, begins_name, continues_name}
use Rattle.text_grammar.specs.text_core.Prefixes.{prefix}
use Rattle.text_grammar.specs.text_core.Bytes.{has_leading_zero, value_up_to}
use Rattle.text_core.proofs.PrefixLaws.{Stops, prefix-append}
use Rattle.text_grammar.specs.declared.symbol.Symbol.{Symbol}
use Rattle.text_grammar.specs.declared.symbol.Symbol.TheVariants as item
use Rattle.text_grammar.specs.Grammars.{alternatives}
use Rattle.section_text.specs.declared.action.Role.{Role}
use Rattle.section_text.specs.declared.action.Role.TheVariants as roles
use Rattle.section_text.specs.declared.piece.Piece.{Piece}
use Rattle.section_text.specs.declared.piece.Sign.{Sign}
use Rattle.section_text.specs.declared.piece.Sign.TheVariants as sign
use Rattle.section_text.specs.declared.piece.Sort.{Sort}
use Rattle.section_text.specs.declared.piece.Sort.TheVariants.{Name, Number, Sign as ASign, Wrong}
use Rattle.section_text.specs.declared.piece.Word.{Word}
use Rattle.section_text.specs.declared.piece.Word.TheVariants as word
use Rattle.section_text.specs.Drafts.{Draft, name_bytes, read_in}
use Rattle.section_text.specs.Faults.{fault_of_in, fault_of_piece}
use Rattle.section_text.specs.Grammar.{class_of_sort, class_of_word, section_grammar}
use Rattle.section_text.specs.Lexing.{digits_at, lexeme, name_at, sign_at, sorted_at, word_of}
use Rattle.section_writer.proofs.Along.{Along, IsCut, makes, piece_at, reads}
use Rattle.section_writer.proofs.States.{Kept, in_role, st}

-- a byte is cut off
abbrev sign_cut : (k : Sign) (b : ℕ) (rest : List ℕ)
    → sorted_at b rest ≡ record { piece = ASign k; len = 1 } → IsCut (ASign k) (b ∷ rest) rest
sign_cut k b rest e = record { first = b; others = rest; some = 0; begins = refl; cut = e; behind = refl }

module _ {p : Program} {text : List ℕ} {ss : List Symbol} {d : Draft} {rest : List ℕ} {Q : Draft → Type 0} where
  -- a sign is read that says no more than its class, and the draft stays
  sign_read : (s : Sign) (b : ℕ) → sorted_at b rest ≡ record { piece = ASign s; len = 1 } → d.role ≡ roles.Plain
      → Along p text ss d rest Q → Along p text (item.Piece (class_of_sort (ASign s)) ∷ ss) d (b ∷ rest) Q
  sign_read s b e plain more =
      let q : Piece = piece_at text (b ∷ rest) (ASign s) 0 in
      reads (ASign s) (sign_cut s b rest e) d (λ before h. ap (λ (r : Role). fault_of_in r p text q d) plain)
      (λ before h. ap (λ (r : Role). read_in r p text q d) plain ∙ ap (λ (r : Role). record d { role = r }) (sym plain)) more

  pub blank : d.role ≡ roles.Plain → Along p text ss d rest Q → Along p text (item.Piece 14 ∷ ss) d (32 ∷ rest) Q
  blank plain more = sign_read sign.Blank 32 refl plain more

  pub feed : d.role ≡ roles.Plain → Along p text ss d rest Q → Along p text (item.Piece 15 ∷ ss) d (10 ∷ rest) Q
  feed plain more = sign_read sign.LineFeed 10 refl plain more

  pub opens : d.role ≡ roles.Plain → Along p text ss d rest Q → Along p text (item.Piece 16 ∷ ss) d (91 ∷ rest) Q
  opens plain more = sign_read sign.OpenSquare 91 refl plain more

  pub closes : d.role ≡ roles.Plain → Along p text ss d rest Q → Along p text (item.Piece 17 ∷ ss) d (93 ∷ rest) Q
  closes plain more = sign_read sign.CloseSquare 93 refl plain more

  pub bracket : d.role ≡ roles.Plain → Along p text ss d rest Q → Along p text (item.Piece 18 ∷ ss) d (40 ∷ rest) Q
  bracket plain more = sign_read sign.Open 40 refl plain more

  pub unbracket : d.role ≡ roles.Plain → Along p text ss d rest Q → Along p text (item.Piece 19 ∷ ss) d (41 ∷ rest) Q
  unbracket plain more = sign_read sign.Close 41 refl plain more

  pub semicolon : d.role ≡ roles.Plain → Along p text ss d rest Q → Along p text (item.Piece 20 ∷ ss) d (59 ∷ rest) Q
  semicolon plain more = sign_read sign.Semicolon 59 refl plain more

-- a piece of a sort
abbrev pub sorted : Sort → (at len : ℕ) → Piece
sorted sort at len = record { sort = sort; at = at; len = len }

-- the sign of a negative number is read
pub minus : {p : Program} {text : List ℕ} {ss : List Symbol} {d : Draft} {rest : List ℕ} {Q : Draft → Type 0} (new : Draft)
    → ((at len : ℕ) → fault_of_piece p text (sorted (ASign sign.Minus) at len) d ≡ None)
    → ((at len : ℕ) → read_in d.role p text (sorted (ASign sign.Minus) at len) d ≡ new)
    → Along p text ss new rest Q → Along p text (item.Piece 21 ∷ ss) d (45 ∷ rest) Q
minus {p} {text} {ss} {d} {rest} new none gives more =
    reads (ASign sign.Minus) (sign_cut sign.Minus 45 rest refl) new
    (λ before h. none (length text - length (45 ∷ rest)) 1) (λ before h. gives (length text - length (45 ∷ rest)) 1) more

-- a name is cut off before a byte that doesn't continue it
abbrev name_cut : (b : ℕ) (others rest : List ℕ) → begins_name b ≡ true → list_all continues_name others ≡ true
    → Stops continues_name rest → IsCut (Name (word_of (b ∷ others))) (b ∷ (others ++ rest)) rest
name_cut b others rest begins all stops = record {
  first = b;
  others = others ++ rest;
  some = length others;
  begins = refl;
  cut =
      ap (λ (v : Bool). cond v (name_at b (others ++ rest))
      (cond (is_ascii_digit b) (digits_at b (others ++ rest)) (lexeme (sign_at b) 1))) begins
      ∙ ap (λ (xs : List ℕ). lexeme (Name (word_of (b ∷ xs))) (length (b ∷ xs)))
      (prefix-append continues_name others rest all stops);
  behind = drop-append_seam others rest;
}

-- the bytes of a name that others follow to the end of the text
name_here : (text before name rest : List ℕ) → text ≡ before ++ (name ++ rest)
    → take (length name) (drop (length text - length (name ++ rest)) text) ≡ name
name_here text before name rest e =
    let long = ap length e in
    let both = length-append before (name ++ rest) in
    let there : length text - length (name ++ rest) ≡ length before = omega (arith, long, both) in
    ap (λ (n : ℕ). take (length name) (drop n text)) there
    ∙ ap (λ (bs : List ℕ). take (length name) (drop (length before) bs)) e
    ∙ ap (λ (bs : List ℕ). take (length name) bs) (drop-append_seam before (name ++ rest))
    ∙ take-append_seam name rest

-- a word is read, in a role in which its bytes don't matter
pub word_in : {p : Program} {text : List ℕ} {ss : List Symbol} {k : Kept} {rest : List ℕ} {Q : Draft → Type 0} (r : Role)
    (b : ℕ) (others : List ℕ) → begins_name b ≡ true → list_all continues_name others ≡ true → Stops continues_name rest
    → ((q : Piece) → fault_of_in r p text q (in_role r k) ≡ None)
    → ((q : Piece) → read_in r p text q (in_role r k) ≡ st k)
    → Along p text ss (st k) rest Q
    → Along p text (item.Piece (class_of_word (word_of (b ∷ others))) ∷ ss) (in_role r k) (b ∷ (others ++ rest)) Q
word_in {p} {text} {ss} {k} {rest} r b others begins all stops none gives more =
    let q : Piece = piece_at text (b ∷ (others ++ rest)) (Name (word_of (b ∷ others))) (length others) in
    reads (Name (word_of (b ∷ others))) (name_cut b others rest begins all stops) (st k) (λ before e. none q)
    (λ before e. gives q) more

-- the class of a name is one of those of names
name_class : (w : Word) → Among (item.Piece (class_of_word w) ∷ []) (alternatives section_grammar.rules 5)
name_class word.Copy = inl refl
name_class word.Of = inr (inl refl)
name_class word.Facts = inr (inr (inl refl))
name_class word.From = inr (inr (inr (inl refl)))
name_class word.Rule = inr (inr (inr (inr (inl refl))))
name_class word.To = inr (inr (inr (inr (inr (inl refl)))))
name_class word.By = inr (inr (inr (inr (inr (inr (inl refl))))))
name_class word.Never = inr (inr (inr (inr (inr (inr (inr (inl refl)))))))
name_class word.If = inr (inr (inr (inr (inr (inr (inr (inr (inl refl))))))))
name_class word.Then = inr (inr (inr (inr (inr (inr (inr (inr (inr (inl refl)))))))))
name_class word.Else = inr (inr (inr (inr (inr (inr (inr (inr (inr (inr (inl refl))))))))))
name_class word.Other = inr (inr (inr (inr (inr (inr (inr (inr (inr (inr (inr (inl refl)))))))))))

-- a name is read, in a role in which its bytes decide
pub name_in : {p : Program} {text : List ℕ} {ss : List Symbol} {k : Kept} {rest : List ℕ} {Q : Draft → Type 0} (r : Role)
    (name : NameBytes) (new : Draft) → IsName name → Stops continues_name rest
    → ((q : Piece) → name_bytes text q ≡ name → fault_of_in r p text q (in_role r k) ≡ None)
    → ((q : Piece) → name_bytes text q ≡ name → read_in r p text q (in_role r k) ≡ new)
    → Along p text ss new rest Q → Along p text (item.Made 5 ∷ ss) (in_role r k) (name ++ rest) Q
name_in r [] new is stops none gives more = absurd is
name_in {p} {text} {ss} {k} {rest} r (b ∷ others) new is stops none gives more =
    let q : Piece = piece_at text (b ∷ (others ++ rest)) (Name (word_of (b ∷ others))) (length others) in
    makes 5 (item.Piece (class_of_word (word_of (b ∷ others))) ∷ []) (name_class (word_of (b ∷ others)))
    (reads (Name (word_of (b ∷ others))) (name_cut b others rest is.0 is.1 stops) new
    (λ before e. none q (name_here text before (b ∷ others) rest e))
    (λ before e. gives q (name_here text before (b ∷ others) rest e)) more)

-- the digits of a number
record Digits (n : ℕ) : Type 0 where
  pub first : ℕ
  pub others : List ℕ
  pub bytes : decimal n ≡ first ∷ others
  pub digit : is_ascii_digit first ≡ true
  pub all : list_all is_ascii_digit others ≡ true
  pub proper : has_leading_zero (first ∷ others) ≡ false
  pub value : digits_value 10 (first ∷ others) ≡ n

digits_of : (n : ℕ) → n ≤ certificate_limit → Digits n
digits_of n small = go (decimal n) d.0.0 (digits_pass (decimal n) d.0.1) refl
  where
    d : IsNumeral 10 (decimal n) × (digits_value 10 (decimal n) ≡ n)
    d = decimal_is_IsNumeral_wide n (omega (arith, small))

    go : (ds : List ℕ) → 0 < length ds → list_all is_ascii_digit ds ≡ true → decimal n ≡ ds → Digits n
    go [] some all e = absurd (omega (arith, some))
    go (c ∷ cs) some all e =
        let t = and_parts (is_ascii_digit c) (list_all is_ascii_digit cs) all in record {
          first = c;
          others = cs;
          bytes = e;
          digit = t.0;
          all = t.1;
          proper = ap has_leading_zero (sym e) ∙ decimal_proper n (omega (arith, small));
          value = ap (digits_value 10) (sym e) ∙ d.1;
        }

-- a digit begins no name
digit_no_name : (c : ℕ) → is_ascii_digit c ≡ true → begins_name c ≡ false
digit_no_name c h = grind (arith, nat_tests)

-- a number is cut off before a byte that doesn't continue it
number_cut : (n : ℕ) (rest : List ℕ) → n ≤ certificate_limit → Stops is_ascii_digit rest
    → IsCut (Number n) (decimal n ++ rest) rest
number_cut n rest small stops = go (digits_of n small)
  where
    go : Digits n → IsCut (Number n) (decimal n ++ rest) rest
    go d = record {
      first = d.first;
      others = d.others ++ rest;
      some = length d.others;
      begins = ap (λ (bs : List ℕ). bs ++ rest) d.bytes;
      cut =
          ap (λ (v : Bool). cond v (name_at d.first (d.others ++ rest))
          (cond (is_ascii_digit d.first) (digits_at d.first (d.others ++ rest)) (lexeme (sign_at d.first) 1)))
          (digit_no_name d.first d.digit)
          ∙ ap (λ (v : Bool). cond v (digits_at d.first (d.others ++ rest)) (lexeme (sign_at d.first) 1)) d.digit
          ∙ ap (λ (xs : List ℕ). lexeme (cond (has_leading_zero (d.first ∷ xs)) Wrong
          (Number (value_up_to (certificate_limit + 1) (d.first ∷ xs)))) (length (d.first ∷ xs)))
          (prefix-append is_ascii_digit d.others rest d.all stops)
          ∙ ap (λ (v : Bool). lexeme (cond v Wrong (Number (value_up_to (certificate_limit + 1) (d.first ∷ d.others))))
          (length (d.first ∷ d.others))) d.proper
          ∙ ap (λ (m : ℕ). lexeme (Number m) (length (d.first ∷ d.others)))
          (ap (λ (m : ℕ). min m (certificate_limit + 1)) d.value
          ∙ (let e : min n (certificate_limit + 1) ≡ n = omega (arith, small) in e));
      behind = drop-append_seam d.others rest;
    }

-- the class of a number is one of those of numbers, and from 1 on that of positive ones
pub number_class : (n : ℕ) → Among (item.Piece (class_of_sort (Number n)) ∷ []) (alternatives section_grammar.rules 6)
number_class n = go (n == 0)
  where
    go : (v : Bool) → Among (item.Piece (cond v 12 13) ∷ []) (alternatives section_grammar.rules 6)
    go true = inl refl
    go false = inr (inl refl)

pub signed_class : (n : ℕ) → Among (item.Piece (class_of_sort (Number n)) ∷ []) (alternatives section_grammar.rules 10)
signed_class n = go (n == 0)
  where
    go : (v : Bool) → Among (item.Piece (cond v 12 13) ∷ []) (alternatives section_grammar.rules 10)
    go true = inl refl
    go false = inr (inl refl)

pub positive_class : (n : ℕ) → class_of_sort (Number (suc n)) ≡ 13
positive_class n = ap (λ (v : Bool). cond v 12 13) (let e : (suc n == 0) ≡ false = grind (arith, nat_tests) in e)

-- a number is read
pub number_read : {p : Program} {text : List ℕ} {ss : List Symbol} {d : Draft} {rest : List ℕ} {Q : Draft → Type 0} (n : ℕ)
    (new : Draft) → n ≤ certificate_limit → Stops is_ascii_digit rest
    → ((at len : ℕ) → fault_of_piece p text (sorted (Number n) at len) d ≡ None)
    → ((at len : ℕ) → read_in d.role p text (sorted (Number n) at len) d ≡ new)
    → Along p text ss new rest Q
    → Along p text (item.Piece (class_of_sort (Number n)) ∷ ss) d (decimal n ++ rest) Q
number_read {p} {text} {ss} {d} {rest} n new small stops none gives more =
    let c = number_cut n rest small stops in
    let at : ℕ = length text - length (decimal n ++ rest) in
    reads (Number n) c new (λ before e. none at (suc c.some)) (λ before e. gives at (suc c.some)) more
