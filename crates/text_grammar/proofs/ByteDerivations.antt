-- Derivations and parts of texts in bytes, in both directions: of numbers, and of the text's own nonterminals.
use Rattle.std.proofs.Common.{◌≡◌, ℕ, zero, suc, ◌-◌, ◌^◌, ◌<◌, ◌≤◌, List, [], ◌∷◌, ◌++◌}
use Rattle.std.proofs.Common.{length, refl, ap, sym, subst, ◌∙◌, arith, append-nil, append_assoc, inl, inr, Option, Some, None, Bool, true, false, ◌&&◌}
use Rattle.std.specs.Prelude.{◌⊎◌, ℤ, pos, negsuc, unsigned_abs, nat_lt}
use Rattle.std.specs.Fmt.{decimal, signed_decimal}
use Rattle.std.specs.Str.Parse.{AllDigits}
use Rattle.std.proofs.lemmas.Fmt.{decimal_digit}
use Rattle.std.proofs.lemmas.Bool.Decides.{nat_tests}
use Rattle.text_core.specs.Faults.{Among}
use Rattle.text_core.specs.Reading.{Parsed, answer}
use Rattle.text_grammar.specs.declared.symbol.Symbol.{Symbol}
use Rattle.text_grammar.specs.declared.symbol.Symbol.TheVariants.{Piece, Made, Mark}
use Rattle.text_grammar.specs.Grammars.{Event, Read, Did, Derives, alternatives}
use Rattle.text_grammar.specs.Sounding.{is_readable}
use Rattle.text_grammar.specs.Texts.{IsLawful, reader}
use Rattle.text_grammar.specs.Parts.{Part, Says, Does, Puts, events_of, spelled, come, Stand, Values, body_parts}
use Rattle.text_grammar.specs.Parts.{ComesTo, AreMade, Gives, AllGive, AllMake, Derived, AreDerived}
use Rattle.text_grammar.specs.ByteTexts.{ByteText, Spelling, Numeral, Numbered, Value, Signed, fresh, with_byte, reads}
use Rattle.text_grammar.specs.ByteTexts.{says, signed_rule, BytesHaveNoFault}
use Rattle.text_grammar.specs.ByteTexts.{class_of, only, tokens, fold_of, numbers_of, done_mark, grammar_of}
use Rattle.text_grammar.specs.ByteTexts.{texts_of, number_rule, positive_rule, digits_rule, values_rule, HasNumbers}
use Rattle.text_grammar.specs.ByteTexts.{IsBounded, fault_of_number, line_value_limit, AreSmall, line_text, values_parts}
use Rattle.text_grammar.specs.ByteTexts.{value_events, values_events}
use Rattle.text_grammar.specs.declared.numeral.NumberContext.TheVariants.{Natural as InNatural, Signed as InSigned}
use Rattle.text_grammar.specs.ByteParts.{Plain, Positive, number_of, ValueOf, parts_of, OwnAreMade}
use Rattle.text_grammar.specs.Folds.{after}
use Rattle.text_grammar.proofs.Tests.{both}
use Rattle.text_grammar.proofs.FoldLaws.{derived_reads, silent_passes, passes_silent, state_after}
use Rattle.text_grammar.proofs.PartLaws.{makes_give, derived_value, value_derived, events_pass}
use Rattle.text_grammar.proofs.Numerals.{digit_range, digit_below, decimal_of, positive_of, with, plain_stands}
use Rattle.text_grammar.proofs.Numerals.{numbers_put, grows_after, small, small_of_faultless, lined, behind}
use Rattle.text_grammar.proofs.ByteLaws.{pieces_bytes, bytes_only}
use Rattle.text_grammar.proofs.SilenceLaws.{parsed_where_silent}

-- a digit is `0`, `1`, or greater
which : (c : ℕ) → 48 ≤ c → c ≤ 57 → (c ≡ 48) ⊎ ((c ≡ 49) ⊎ (50 ≤ c))
which c h k = grind arith

of_many : (letters : List ℕ) (c : ℕ) → 50 ≤ c → c ≤ 57 → class_of letters c ≡ 2
of_many letters c h k = grind (arith, nat_tests)

many : (letters : List ℕ) (c : ℕ) → class_of letters c ≡ 2 → (50 ≤ c) × (c ≤ 57)
many letters c h = (grind (arith, nat_tests), grind (arith, nat_tests))

-- an alternative is among those of its nonterminal
among_in : (rules : List (List (List Symbol))) (n : ℕ) (bodies : List (List Symbol)) (body : List Symbol)
    → alternatives rules n ≡ bodies → Among body bodies → Among body (alternatives rules n)
among_in rules n bodies body e a = subst (Among body) (sym e) a

module _ {S T K : Type 0} (x : ByteText S T K) where
  -- the events of bytes as parts, before other parts, are those of reading the bytes and those of the other parts
  events-says : (bs : List ℕ) (xs : List (Part ℕ Numbered))
      → events_of (fold_of x) (numbers_of x) (says bs xs) ≡ reads bs ++ events_of (fold_of x) (numbers_of x) xs
  events-says [] xs = refl
  events-says (b ∷ bs) xs = ap (λ (es : List (Event ℕ)). Read b ∷ es) (events-says bs xs)

  pub spelled-says : (bs : List ℕ) (xs : List (Part ℕ Numbered))
      → spelled (fold_of x) (numbers_of x) (says bs xs) ≡ bs ++ spelled (fold_of x) (numbers_of x) xs
  spelled-says [] xs = refl
  spelled-says (b ∷ bs) xs = ap (λ (ds : List ℕ). b ∷ ds) (spelled-says bs xs)

module _ {S T K : Type 0} (x : ByteText S T K) where
  -- the rest of a line of values has its text, and its events
  values_spelled : (vs : List ℤ) → spelled (fold_of x) (numbers_of x) (values_parts vs) ≡ line_text vs
  values_spelled [] = refl
  values_spelled (v ∷ vs) = ap (λ (bs : List ℕ). 32 ∷ (signed_decimal v ++ bs)) (values_spelled vs)

  values_happen : (vs : List ℤ) → events_of (fold_of x) (numbers_of x) (values_parts vs) ≡ values_events vs
  values_happen [] = refl
  values_happen (v ∷ vs) = ap (λ (es : List (Event ℕ)). Read 32 ∷ (value_events v ++ es)) (values_happen vs)

-- an optional kind is none
abbrev pub is_no : {K : Type 0} → Option K → Bool
is_no None = true
is_no (Some kind) = false

false_true : false ≡ true → ⊥
false_true e = cc

no_kind : {K : Type 0} (o : Option K) → is_no o ≡ true → o ≡ None
no_kind None e = refl
no_kind (Some kind) e = absurd (false_true e)

module _ {S T K : Type 0} (x : ByteText S T K) where
  -- reading the bytes of a word from a state shows no fault
  abbrev pub passes_word : Spelling S → List ℕ → Bool
  passes_word s [] = true
  passes_word s (b ∷ bs) = is_no ((fold_of x).reported_fault s b) && passes_word ((fold_of x).read b s) bs

  -- a word without faults before parts without faults has none; and parts after a word without faults have none
  pub word_parsed : (s : Spelling S) (bs : List ℕ) (xs : List (Part ℕ Numbered)) → passes_word s bs ≡ true
      → Stand (fold_of x) (numbers_of x) (after (fold_of x) s (reads bs)) xs
      → Stand (fold_of x) (numbers_of x) s (says bs xs)
  word_parsed s [] xs e h = h
  word_parsed s (b ∷ bs) xs e h =
      let w = both (is_no ((fold_of x).reported_fault s b)) (passes_word ((fold_of x).read b s) bs) e in
      (no_kind ((fold_of x).reported_fault s b) w.0, word_parsed ((fold_of x).read b s) bs xs w.1 h)

  pub word_has_no_fault : (s : Spelling S) (bs : List ℕ) (xs : List (Part ℕ Numbered))
      → Stand (fold_of x) (numbers_of x) s (says bs xs)
      → Stand (fold_of x) (numbers_of x) (after (fold_of x) s (reads bs)) xs
  word_has_no_fault s [] xs h = h
  word_has_no_fault s (b ∷ bs) xs h = word_has_no_fault ((fold_of x).read b s) bs xs h.1

module _ {S T K : Type 0} (x : ByteText S T K) (bounded : IsBounded x) where
  -- the state after the rest of a line; the rest has no fault only if its values are small and their number is
  -- permitted
  values_come : (vs : List ℤ) (o : S) (m : Numeral) (ws : List ℤ)
      → come (fold_of x) (numbers_of x) (lined x bounded o m ws) (values_parts vs) ≡ behind x bounded o (ws ++ vs)
  values_come [] o m ws = ap (behind x bounded o) (sym (append-nil ws))
  values_come (v ∷ vs) o m ws =
      values_come vs o fresh (ws ++ v ∷ []) ∙ ap (behind x bounded o) (append_assoc ws (v ∷ []) vs)

  values_stand : (vs : List ℤ) (o : S) (m : Numeral) (ws : List ℤ)
      → Stand (fold_of x) (numbers_of x) (lined x bounded o m ws) (values_parts vs)
      → AreSmall vs × BytesHaveNoFault x o vs × (x.fault_of_line o (length (ws ++ vs)) ≡ None)
  values_stand [] o m ws h = (tt, tt, ap (λ (us : List ℤ). x.fault_of_line o (length us)) (append-nil ws) ∙ h.0)
  values_stand (v ∷ vs) o m ws h =
      let r = values_stand vs o fresh (ws ++ v ∷ []) h.1.1 in (
        (small_of_faultless x bounded o fresh ws v h.1.0.1, r.0),
        (h.0, h.1.0.0, r.1),
        ap (λ (us : List ℤ). x.fault_of_line o (length us)) (sym (append_assoc ws (v ∷ []) vs)) ∙ r.2,
      )

-- the parts of bytes before other parts
says-append : (bs : List ℕ) (xs : List (Part ℕ Numbered)) → says bs [] ++ xs ≡ says bs xs
says-append [] xs = refl
says-append (b ∷ bs) xs = ap (λ (ys : List (Part ℕ Numbered)). Says b ∷ ys) (says-append bs xs)

module _ {S T K : Type 0} (x : ByteText S T K) (bounded : IsBounded x) (numbers : HasNumbers x.rules)
    (readable : is_readable (grammar_of x) ≡ true) (W : ℕ → Type 0) (own : (n : ℕ) → W n → List (Part ℕ Numbered)) where
  abbrev Given : ℕ → List (List Symbol) → Type 0
  Given n bodies = AllGive (fold_of x) (numbers_of x) (grammar_of x) (only x.letters) (ValueOf W own)
      (parts_of W own) n bodies

  -- a number that ends at a mark, from its first digit on
  ended : (v : Plain) (s t : Spelling S) (m : ℕ) (ps : List ℕ) → s.numeral.number ≡ 0
      → ComesTo (fold_of x) (numbers_of x) s t ps (says (v.first ∷ v.others) [] ++ Does m ∷ [])
      → (k : ℕ) × (fault_of_number x s (number_of v) ≡ None) × (decimal (number_of v) ≡ ps)
      × (done_mark x m (with x bounded s (number_of v) k) ≡ t)
  ended v s t m ps none c =
      let d = subst (ComesTo (fold_of x) (numbers_of x) s t ps) (says-append (v.first ∷ v.others) (Does m ∷ [])) c in
      let w = plain_stands x bounded v s (Does m ∷ []) none d.stands in (
        w.0,
        w.1,
        decimal_of v (small x bounded s (number_of v) w.1) ∙ sym (append-nil (v.first ∷ v.others)) ∙ sym
            (spelled-says x (v.first ∷ v.others) (Does m ∷ [])) ∙ d.spells,
        sym w.3 ∙ d.comes,
      )

  -- a negative number that ends at a mark, after its `-`
  ended_below : (v : Positive) (s t : Spelling S) (m : ℕ) (ps : List ℕ) → s.numeral.number ≡ 0
      → ComesTo (fold_of x) (numbers_of x) s t ps (says (v.plain.first ∷ v.plain.others) [] ++ Does m ∷ [])
      → (n : ℕ) × (k : ℕ) × (fault_of_number x s (suc n) ≡ None) × (decimal (suc n) ≡ ps)
      × (done_mark x m (with x bounded s (suc n) k) ≡ t)
  ended_below v s t m ps none c =
      let w = ended v.plain s t m ps none c in
      go (number_of v.plain) (let l = grows_after (v.plain.first - 48) v.plain.others in let k = v.some in omega
      (arith, l, k)) w.0 w.1 w.2 w.3
    where
      go : (n : ℕ) → 1 ≤ n → (k : ℕ) → fault_of_number x s n ≡ None → decimal n ≡ ps
          → done_mark x m (with x bounded s n k) ≡ t
          → (n : ℕ) × (k : ℕ) × (fault_of_number x s (suc n) ≡ None) × (decimal (suc n) ≡ ps)
          × (done_mark x m (with x bounded s (suc n) k) ≡ t)
      go zero l k a d f = absurd (omega (arith, l))
      go (suc n) l k a d f = (n, k, a, d, f)

  -- the alternatives of a value and of a signed number, negative or not, give values
  minus_given : Gives (fold_of x) (numbers_of x) (grammar_of x) (only x.letters) (ValueOf W own) (parts_of W own) 1
      (Mark 0 ∷ Piece 3 ∷ Made 4 ∷ Mark 1 ∷ [])
  minus_given (v, u) s t ps c =
      let w =
      ended_below v (record s { numeral = with_byte 45 fresh }) t 1 _ refl
      (record { spells = refl; stands = c.stands.1; comes = c.comes }) in (
        negsuc w.0,
        record {
          spells = append-nil (45 ∷ decimal (suc w.0)) ∙ ap (λ (ds : List ℕ). 45 ∷ ds) w.3 ∙ c.spells;
          stands = ((c.stands.0, w.2), tt);
          comes = w.4;
        },
      )

  plain_given : Gives (fold_of x) (numbers_of x) (grammar_of x) (only x.letters) (ValueOf W own) (parts_of W own) 1
      (Mark 0 ∷ Made 3 ∷ Mark 1 ∷ [])
  plain_given (v, u) s t ps c =
      let w =
      ended v (record s { numeral = fresh }) t 1 ps refl
      (record { spells = c.spells; stands = c.stands; comes = c.comes }) in (
        pos (number_of v),
        record { spells = append-nil (decimal (number_of v)) ∙ w.2; stands = ((tt, w.1), tt); comes = w.3 },
      )

  signed_minus_given : Gives (fold_of x) (numbers_of x) (grammar_of x) (only x.letters) (ValueOf W own)
      (parts_of W own) 8 (Mark 6 ∷ Piece 3 ∷ Made 4 ∷ Mark 7 ∷ [])
  signed_minus_given (v, u) s t ps c =
      let w =
      ended_below v (record s { numeral = with_byte 45 fresh; within = InSigned }) t 7 _ refl
      (record { spells = refl; stands = c.stands.1; comes = c.comes }) in (
        negsuc w.0,
        record {
          spells = append-nil (45 ∷ decimal (suc w.0)) ∙ ap (λ (ds : List ℕ). 45 ∷ ds) w.3 ∙ c.spells;
          stands = ((c.stands.0, w.2), tt);
          comes = w.4;
        },
      )

  signed_plain_given : Gives (fold_of x) (numbers_of x) (grammar_of x) (only x.letters) (ValueOf W own)
      (parts_of W own) 8 (Mark 6 ∷ Made 3 ∷ Mark 7 ∷ [])
  signed_plain_given (v, u) s t ps c =
      let w =
      ended v (record s { numeral = fresh; within = InSigned }) t 7 ps refl
      (record { spells = c.spells; stands = c.stands; comes = c.comes }) in (
        pos (number_of v),
        record { spells = append-nil (decimal (number_of v)) ∙ w.2; stands = ((tt, w.1), tt); comes = w.3 },
      )

  -- the alternative of a natural number gives a value
  natural_given : Gives (fold_of x) (numbers_of x) (grammar_of x) (only x.letters) (ValueOf W own) (parts_of W own) 2
      (Mark 3 ∷ Made 3 ∷ Mark 2 ∷ [])
  natural_given (v, u) s t ps c =
      let w =
      ended v (record s { numeral = fresh; within = InNatural }) t 2 ps refl
      (record { spells = c.spells; stands = c.stands; comes = c.comes }) in
      (number_of v, record { spells = append-nil (decimal (number_of v)) ∙ w.2; stands = (w.1, tt); comes = w.3 })

  -- the alternative of a line of values gives a value
  line_given : Gives (fold_of x) (numbers_of x) (grammar_of x) (only x.letters) (ValueOf W own) (parts_of W own) 6
      (Mark 4 ∷ Made 7 ∷ [])
  line_given (vs, u) s t ps c = (
    vs,
    record {
      spells = append-nil (line_text vs) ∙ sym (values_spelled x vs) ∙ c.spells;
      stands = (values_stand x bounded vs s.own fresh [] c.stands, tt);
      comes = sym (values_come x bounded vs s.own fresh []) ∙ c.comes;
    },
  )

  -- values of the symbols of these alternatives are printed by the same parts as some value of the nonterminal
  abbrev Making : ℕ → List (List Symbol) → Type 0
  Making n bodies = AllMake (fold_of x) (numbers_of x) (grammar_of x) (only x.letters) (ValueOf W own)
      (parts_of W own) n bodies

  number_made : Making 3 number_rule
  number_made = (
    λ u. (
      record {
        first = 48;
        others = [];
        low = omega arith;
        high = omega arith;
        digits = tt;
        lead = λ e. refl;
      },
      refl,
    ),
    (λ (v, u). (v.plain, refl), tt),
  )

  positive_made : Making 4 positive_rule
  positive_made = (
    λ (d, u). (
      record {
        plain = record {
          first = 49;
          others = d.bytes;
          low = omega arith;
          high = omega arith;
          digits = d.digits;
          lead = λ e. absurd (omega (arith, e));
        };
        some = omega arith;
      },
      refl,
    ),
    (
      λ (c, k, (d, u)). let r = many x.letters c k in (
        record {
          plain = record {
            first = c;
            others = d.bytes;
            low = (let l = r.0 in omega (arith, l));
            high = r.1;
            digits = d.digits;
            lead = λ e. absurd (let l = r.0 in omega (arith, e, l));
          };
          some = (let l = r.0 in omega (arith, l));
        },
        refl,
      ),
      tt,
    ),
  )

  digits_made : Making 5 digits_rule
  digits_made = (
    λ (d, u). (record { bytes = 48 ∷ d.bytes; digits = (digit_below 48 (omega arith) (omega arith), d.digits) }, refl),
    (
      λ (d, u). (
        record {
          bytes = 49 ∷ d.bytes;
          digits =
              (digit_below 49 (omega arith) (omega arith), d.digits);
        },
        refl,
      ),
      (
        λ (c, k, (d, u)). let r = many x.letters c k in (
          record {
            bytes = c ∷ d.bytes;
            digits =
                (digit_below c (let l = r.0 in omega (arith, l)) r.1, d.digits);
          },
          refl,
        ),
        (λ u. (record { bytes = []; digits = tt }, refl), tt),
      ),
    ),
  )

  -- the alternatives of the rest of a line of values give values
  values_made : Making 7 values_rule
  values_made = (λ (v, (vs, u)). (v ∷ vs, refl), (λ u. ([], refl), tt))

  -- if the alternatives of the text's own nonterminals give values, all alternatives do
  pub are_made : OwnAreMade x W own → AreMade (fold_of x) (numbers_of x) (grammar_of x) (only x.letters) (ValueOf W own)
      (parts_of W own)
  are_made h = record { each = go }
    where
      go : (n : ℕ) → Given n (alternatives x.rules n)
      go zero =
          makes_give (fold_of x) (numbers_of x) (grammar_of x) (only x.letters) (ValueOf W own) (parts_of W own) 0
          (alternatives x.rules 0) h.text
      go (suc zero) = subst (Given 1) (sym numbers.value) (minus_given, (plain_given, tt))
      go (suc (suc zero)) = subst (Given 2) (sym numbers.natural) (natural_given, tt)
      go (suc (suc (suc zero))) =
          subst (Given 3) (sym numbers.number) (makes_give (fold_of x) (numbers_of x) (grammar_of x) (only x.letters)
          (ValueOf W own) (parts_of W own) 3 number_rule number_made)
      go (suc (suc (suc (suc zero)))) =
          subst (Given 4) (sym numbers.positive) (makes_give (fold_of x) (numbers_of x) (grammar_of x) (only x.letters)
          (ValueOf W own) (parts_of W own) 4 positive_rule positive_made)
      go (suc (suc (suc (suc (suc zero))))) =
          subst (Given 5) (sym numbers.digits) (makes_give (fold_of x) (numbers_of x) (grammar_of x) (only x.letters)
          (ValueOf W own) (parts_of W own) 5 digits_rule digits_made)
      go (suc (suc (suc (suc (suc (suc zero)))))) = subst (Given 6) (sym numbers.line) (line_given, tt)
      go (suc (suc (suc (suc (suc (suc (suc zero))))))) =
          subst (Given 7) (sym numbers.values) (makes_give (fold_of x) (numbers_of x) (grammar_of x) (only x.letters)
          (ValueOf W own) (parts_of W own) 7 values_rule values_made)
      go (suc (suc (suc (suc (suc (suc (suc (suc zero)))))))) =
          subst (Given 8) (sym numbers.signed) (signed_minus_given, (signed_plain_given, tt))
      go (suc (suc (suc (suc (suc (suc (suc (suc (suc n))))))))) =
          makes_give (fold_of x) (numbers_of x) (grammar_of x) (only x.letters) (ValueOf W own) (parts_of W own)
          (suc (suc (suc (suc (suc (suc (suc (suc (suc n)))))))))
          (alternatives x.rules (suc (suc (suc (suc (suc (suc (suc (suc (suc n)))))))))) (h.others n)

  -- each value of the nonterminal is derived
  abbrev pub IsDerived : (n : ℕ) → ValueOf W own n → Type 0
  IsDerived n v = Derived (fold_of x) (numbers_of x) (grammar_of x) (only x.letters) (ValueOf W own)
      (parts_of W own) n v

  -- a value is derived if it has the same parts as derived values of the symbols of an alternative
  abbrev Behind : (body : List Symbol) → Values (grammar_of x) (only x.letters) (ValueOf W own) (parts_of W own) body
      → List (Part ℕ Numbered)
  Behind body vs = body_parts (grammar_of x) (only x.letters) (ValueOf W own) (parts_of W own) body vs

  pub by : (n : ℕ) (body : List Symbol) → Among body (alternatives x.rules n)
      → (vs : Values (grammar_of x) (only x.letters) (ValueOf W own) (parts_of W own) body)
      → AreDerived (fold_of x) (numbers_of x) (grammar_of x) (only x.letters) (ValueOf W own) (parts_of W own) body vs
      → Derives (grammar_of x) (Made n ∷ []) (events_of (fold_of x) (numbers_of x) (Behind body vs))
      (spelled (fold_of x) (numbers_of x) (Behind body vs))
  by n body a vs d =
      value_derived (fold_of x) (numbers_of x) (grammar_of x) (only x.letters) (ValueOf W own) (parts_of W own)
      (bytes_only x readable) n body a vs d

  -- a nonterminal derives these bytes
  abbrev DerivesBytes : ℕ → List ℕ → Type 0
  DerivesBytes n bs = Derives (grammar_of x) (Made n ∷ []) (events_of (fold_of x) (numbers_of x) (says bs []))
      (spelled (fold_of x) (numbers_of x) (says bs []))

  -- digits are derived, and so are the digits of a number from 1 on, and those of a number
  digits_derived : (bs : List ℕ) (all : AllDigits 10 bs) → DerivesBytes 5 bs
  digits_derived [] all = by 5 [] (among_in x.rules 5 _ [] numbers.digits (inr (inr (inr (inl refl))))) tt tt
  digits_derived (c ∷ cs) all = let r = digit_range c all.0 in go (which c r.0 r.1) r.1 (digits_derived cs all.1)
    where
      go : (c ≡ 48) ⊎ ((c ≡ 49) ⊎ (50 ≤ c)) → c ≤ 57 → DerivesBytes 5 cs → DerivesBytes 5 (c ∷ cs)
      go (inl e) l ih =
          subst (λ (b : ℕ). DerivesBytes 5 (b ∷ cs)) (sym e)
          (by 5 (Piece 0 ∷ Made 5 ∷ []) (among_in x.rules 5 _ _ numbers.digits (inl refl))
          (record { bytes = cs; digits = all.1 }, tt) (ih, tt))
      go (inr (inl e)) l ih =
          subst (λ (b : ℕ). DerivesBytes 5 (b ∷ cs)) (sym e)
          (by 5 (Piece 1 ∷ Made 5 ∷ []) (among_in x.rules 5 _ _ numbers.digits (inr (inl refl)))
          (record { bytes = cs; digits = all.1 }, tt) (ih, tt))
      go (inr (inr k)) l ih =
          by 5 (Piece 2 ∷ Made 5 ∷ []) (among_in x.rules 5 _ _ numbers.digits (inr (inr (inl refl))))
          (c, of_many x.letters c k l, (record { bytes = cs; digits = all.1 }, tt)) (ih, tt)

  positive_derived : (v : Positive) → DerivesBytes 4 (v.plain.first ∷ v.plain.others)
  positive_derived v = go (which v.plain.first v.plain.low v.plain.high) (digits_derived v.plain.others v.plain.digits)
    where
      go : (v.plain.first ≡ 48) ⊎ ((v.plain.first ≡ 49) ⊎ (50 ≤ v.plain.first)) → DerivesBytes 5 v.plain.others
          → DerivesBytes 4 (v.plain.first ∷ v.plain.others)
      go (inl e) ih = absurd (let l = v.some in omega (arith, e, l))
      go (inr (inl e)) ih =
          subst (λ (b : ℕ). DerivesBytes 4 (b ∷ v.plain.others)) (sym e)
          (by 4 (Piece 1 ∷ Made 5 ∷ []) (among_in x.rules 4 _ _ numbers.positive (inl refl))
          (record { bytes = v.plain.others; digits = v.plain.digits }, tt) (ih, tt))
      go (inr (inr k)) ih =
          by 4 (Piece 2 ∷ Made 5 ∷ []) (among_in x.rules 4 _ _ numbers.positive (inr (inl refl))) (
            v.plain.first,
            of_many x.letters v.plain.first k v.plain.high,
            (record { bytes = v.plain.others; digits = v.plain.digits }, tt),
          ) (ih, tt)

  number_derived : (n : ℕ) → n < 2 ^ 64 → (v : Plain) × (v.first ∷ v.others ≡ decimal n)
      × DerivesBytes 3 (v.first ∷ v.others)
  number_derived zero l = (
    record { first = 48; others = []; low = omega arith; high = omega arith; digits = tt; lead = λ e. refl },
    sym (decimal_digit 0 (omega arith)),
    by 3 (Piece 0 ∷ []) (among_in x.rules 3 _ _ numbers.number (inl refl)) tt tt,
  )
  number_derived (suc m) l = let v = positive_of (suc m) (omega arith) l in (
    v.0.plain,
    v.1,
    by 3 (Made 4 ∷ []) (among_in x.rules 3 _ _ numbers.number (inr (inl refl))) (v.0, tt)
        (positive_derived v.0, tt),
  )

  -- a nonterminal derives bytes that end before a mark
  marked : (n m : ℕ) (before : List (Event ℕ)) (start bs ds : List ℕ) → bs ≡ ds
      → Derives (grammar_of x) (Made n ∷ []) (before
      ++ events_of (fold_of x) (numbers_of x) (says bs [] ++ Does m ∷ []))
      (start ++ spelled (fold_of x) (numbers_of x) (says bs [] ++ Does m ∷ []))
      → Derives (grammar_of x) (Made n ∷ []) (before ++ (reads ds ++ Did m ∷ [])) (start ++ ds)
  marked n m before start bs ds e d =
      subst (λ (es : List (Event ℕ)). Derives (grammar_of x) (Made n ∷ []) (before ++ es) (start ++ ds))
      (ap (events_of (fold_of x) (numbers_of x)) (says-append bs (Does m ∷ [])) ∙ events-says x bs
      (Does m ∷ []) ∙ ap (λ (cs : List ℕ). reads cs ++ Did m ∷ []) e)
      (subst (λ (cs : List ℕ). Derives (grammar_of x) (Made n ∷ [])
      (before ++ events_of (fold_of x) (numbers_of x) (says bs [] ++ Does m ∷ [])) (start ++ cs))
      (ap (spelled (fold_of x) (numbers_of x)) (says-append bs (Does m ∷ [])) ∙ spelled-says x bs
      (Does m ∷ []) ∙ append-nil bs ∙ e) d)

  -- a nonterminal derives a body that nothing follows
  alone : (n : ℕ) (es : List (Event ℕ)) (ps : List ℕ) → Derives (grammar_of x) (Made n ∷ []) es ps
      → Derives (grammar_of x) (Made n ∷ []) (es ++ []) (ps ++ [])
  alone n es ps d =
      subst (λ (fs : List (Event ℕ)). Derives (grammar_of x) (Made n ∷ []) fs (ps ++ [])) (sym (append-nil es))
      (subst (λ (qs : List ℕ). Derives (grammar_of x) (Made n ∷ []) es qs) (sym (append-nil ps)) d)

  -- numbers below 2^64 are derived
  pub each_value : (z : ℤ) → unsigned_abs z < 2 ^ 64 → IsDerived 1 z
  each_value (pos n) l = let v = number_derived n l in
      alone 1 _ _ (marked 1 1 (Did 0 ∷ []) [] (v.0.first ∷ v.0.others) (decimal n) v.1
      (by 1 (Mark 0 ∷ Made 3 ∷ Mark 1 ∷ []) (among_in x.rules 1 _ _ numbers.value (inr (inl refl))) (v.0, tt)
      (v.2, tt)))
  each_value (negsuc m) l = let v = positive_of (suc m) (omega arith) l in
      alone 1 _ _ (marked 1 1 (Did 0 ∷ Read 45 ∷ []) (45 ∷ []) (v.0.plain.first ∷ v.0.plain.others)
      (decimal (suc m)) v.1
      (by 1 (Mark 0 ∷ Piece 3 ∷ Made 4 ∷ Mark 1 ∷ []) (among_in x.rules 1 _ _ numbers.value (inl refl)) (v.0, tt)
      (positive_derived v.0, tt)))

  pub each_signed : (z : ℤ) → unsigned_abs z < 2 ^ 64 → IsDerived 8 z
  each_signed (pos n) l = let v = number_derived n l in
      alone 8 _ _ (marked 8 7 (Did 6 ∷ []) [] (v.0.first ∷ v.0.others) (decimal n) v.1
      (by 8 (Mark 6 ∷ Made 3 ∷ Mark 7 ∷ []) (among_in x.rules 8 _ _ numbers.signed (inr (inl refl))) (v.0, tt)
      (v.2, tt)))
  each_signed (negsuc m) l = let v = positive_of (suc m) (omega arith) l in
      alone 8 _ _ (marked 8 7 (Did 6 ∷ Read 45 ∷ []) (45 ∷ []) (v.0.plain.first ∷ v.0.plain.others)
      (decimal (suc m)) v.1
      (by 8 (Mark 6 ∷ Piece 3 ∷ Made 4 ∷ Mark 7 ∷ []) (among_in x.rules 8 _ _ numbers.signed (inl refl)) (v.0, tt)
      (positive_derived v.0, tt)))

  pub each_natural : (n : ℕ) → n < 2 ^ 64 → IsDerived 2 n
  each_natural n l = let v = number_derived n l in
      alone 2 _ _ (marked 2 2 (Did 3 ∷ []) [] (v.0.first ∷ v.0.others) (decimal n) v.1
      (by 2 (Mark 3 ∷ Made 3 ∷ Mark 2 ∷ []) (among_in x.rules 2 _ _ numbers.natural (inl refl)) (v.0, tt)
      (v.2, tt)))

  -- the rest of a line of small values is derived, and so is such a line
  values_derived : (vs : List ℤ) → AreSmall vs → IsDerived 7 vs
  values_derived [] l =
      by 7 (Piece 5 ∷ Mark 5 ∷ []) (among_in x.rules 7 _ _ numbers.values (inr (inl refl))) tt tt
  values_derived (v ∷ vs) l =
      by 7 (Piece 4 ∷ Made 1 ∷ Made 7 ∷ []) (among_in x.rules 7 _ _ numbers.values (inl refl)) (v, (vs, tt))
      (each_value v (let k = l.0 in omega (arith, k)), (values_derived vs l.1, tt))

  pub each_line : (vs : List ℤ) → AreSmall vs → IsDerived 6 vs
  each_line vs l =
      alone 6 _ _ (subst (λ (es : List (Event ℕ)). Derives (grammar_of x) (Made 6 ∷ []) (Did 4 ∷ es) (line_text vs))
      (values_happen x vs)
      (subst (λ (ps : List ℕ). Derives (grammar_of x) (Made 6 ∷ [])
      (Did 4 ∷ events_of (fold_of x) (numbers_of x) (values_parts vs)) ps) (values_spelled x vs)
      (by 6 (Mark 4 ∷ Made 7 ∷ []) (among_in x.rules 6 _ _ numbers.line (inl refl)) (vs, tt)
      (values_derived vs l, tt))))

  -- the text of this value has no fault; the state at its end
  abbrev pub TextHasNoFault : W 0 → Type 0
  TextHasNoFault w = Stand (fold_of x) (numbers_of x) (fold_of x).begun (own 0 w)

  abbrev pub tree_of : W 0 → T
  tree_of w = x.tree (come (fold_of x) (numbers_of x) (fold_of x).begun (own 0 w)).own

  -- if a tree is answered, the bytes are the text of a value without faults
  pub answered : OwnAreMade x W own → IsLawful (texts_of x) → (bytes : List ℕ) (t : T)
      → answer (reader (texts_of x)) (length bytes) (tokens bytes) ≡ Parsed t
      → (w : W 0) × (spelled (fold_of x) (numbers_of x) (own 0 w) ≡ bytes) × TextHasNoFault w × (tree_of w ≡ t)
  answered made lawful bytes t e =
      let w = (parsed_where_silent (texts_of x) lawful).stands (length bytes) (tokens bytes) t e in
      let d =
      derived_value (fold_of x) (numbers_of x) (grammar_of x) (only x.letters) (ValueOf W own) (parts_of W own)
      (bytes_only x readable) (are_made made) 0 w.1 (fold_of x).begun
      (silent_passes (fold_of x) (grammar_of x) [] w.0 (tokens bytes) (derived_reads (grammar_of x) w.1) w.3) in (
        d.0,
        d.1.spells ∙ pieces_bytes bytes,
        d.1.stands,
        ap (λ (s : Spelling S). x.tree s.own) (d.1.comes ∙ sym (state_after (fold_of x) [] w.0)) ∙ w.2,
      )

  -- if the bytes are the text of a value without faults, its tree is answered
  pub taken : IsLawful (texts_of x) → (w : W 0) → IsDerived 0 w → TextHasNoFault w → (bytes : List ℕ)
      → spelled (fold_of x) (numbers_of x) (own 0 w) ≡ bytes
      → answer (reader (texts_of x)) (length bytes) (tokens bytes) ≡ Parsed (tree_of w)
  taken lawful w d s bytes e =
      let es : List (Event ℕ) = events_of (fold_of x) (numbers_of x) (own 0 w) in
      let p =
      events_pass (fold_of x) (numbers_of x) (numbers_put x bounded) (fold_of x).begun
      (own 0 w) s in
      let derived = subst (Derives (grammar_of x) (Made 0 ∷ []) es) (e ∙ sym (pieces_bytes bytes)) d in
      (parsed_where_silent (texts_of x) lawful).silent (length bytes) (tokens bytes) es derived
      (passes_silent (fold_of x) (grammar_of x) [] es (tokens bytes) (derived_reads (grammar_of x) derived) p.0)
      ∙ ap (λ (u : Spelling S). Parsed (x.tree u.own)) (state_after (fold_of x) [] es ∙ p.1)
