-- Numbers in texts of bytes, digit by digit.
use Rattle.std.proofs.Common.{◌≡◌, ℕ, zero, suc, ◌+◌, ◌*◌, ◌-◌, ◌^◌, ◌<◌, ◌≤◌, min, Bool, true, cond, List, []}
use Rattle.std.proofs.Common.{◌∷◌, ◌++◌, length, get_or, refl, ap, sym, subst, ◌∙◌, arith, append-nil, append_assoc}
use Rattle.std.specs.Prelude.{Some, None, ℤ, pos, negsuc, unsigned_abs, ◌==◌, nat_lt, nat_le, not, false}
use Rattle.std.specs.Char.{is_ascii_digit, digit_value}
use Rattle.std.specs.Fmt.{decimal}
use Rattle.std.specs.Str.Parse.{AllDigits, digits_value, digits_value_after}
use Rattle.std.proofs.lemmas.Fmt.{decimal_digit, decimal_is_IsNumeral, first_decimal, decimal-digits_value}
use Rattle.std.proofs.lemmas.Str.Parse.{numerals_by_value, tells_digits}
use Rattle.std.proofs.lemmas.Bool.{eqb-true}
use Rattle.std.proofs.lemmas.Bool.Decides.{nat_tests}
use Rattle.text_grammar.specs.Grammars.{Read, Did}
use Rattle.text_grammar.specs.Folds.{after, Passes}
use Rattle.text_grammar.specs.Parts.{Part, come, Stand}
use Rattle.text_grammar.specs.ByteTexts.{ByteText, Spelling, Numeral, Numbered, Value, Natural, Signed, Line, fresh}
use Rattle.text_grammar.specs.ByteTexts.{one_more, fault_of_value, BytesHaveNoFault}
use Rattle.text_grammar.specs.ByteTexts.{with_byte, reads, says, fold_of, numbers_of, number_events, value_events}
use Rattle.text_grammar.specs.ByteTexts.{values_events, NumberHasNoFault, put_number, fault_of_in, fault_of_number}
use Rattle.text_grammar.specs.ByteTexts.{fault_of_feed, other_faults_of_next, done_mark, IsBounded, line_value_limit, AreSmall}
use Rattle.text_grammar.specs.declared.numeral.NumberContext.{NumberContext}
use Rattle.text_grammar.specs.declared.numeral.NumberContext.TheVariants.{Words, Natural as InNatural, Signed as InSigned}
use Rattle.text_grammar.specs.declared.numeral.NumberContext.TheVariants.{Line as InLine}
use Rattle.text_core.specs.Choices.{when}
use Rattle.text_grammar.specs.ByteParts.{Plain, Positive, number_of}
use Rattle.text_grammar.proofs.FoldLaws.{after_append, passes_append}
use Rattle.text_grammar.specs.Parts.{IsPut}

-- the byte of a digit is from `0` to `9`, and its value is the byte less that of `0`
pub digit_range : (c : ℕ) → digit_value c < 10 → (48 ≤ c) × (c ≤ 57) × (digit_value c ≡ c - 48)
digit_range c h = (grind (arith, nat_tests), grind (arith, nat_tests), grind (arith, nat_tests))

-- bytes from `0` to `9` are digits
pub is_digit : (b : ℕ) → 48 ≤ b → b ≤ 57 → is_ascii_digit b ≡ true
is_digit b h k = grind (arith, nat_tests)

pub digit_below : (b : ℕ) → 48 ≤ b → b ≤ 57 → digit_value b < 10
digit_below b h k = grind (arith, nat_tests)

-- the number that digits write after others is at least the number that the others write
pub grows_after : (n : ℕ) (ds : List ℕ) → n ≤ digits_value_after 10 n ds
grows_after n [] = omega arith
grows_after n (c ∷ ds) = omega (arith, grows_after (n * 10 + digit_value c) ds)

-- a list with an element is not empty
not_empty : (c : ℕ) (ds : List ℕ) → c ∷ ds ≡ [] → ⊥
not_empty c ds e = cc

-- a digit that isn't `0` is at least 1
above : (b : ℕ) → 48 ≤ b → (b ≡ 48 → ⊥) → 1 ≤ b - 48
above b l f = go (b - 48) refl
  where
    go : (n : ℕ) → b - 48 ≡ n → 1 ≤ n
    go zero e = absurd (f (omega (arith, l, e)))
    go (suc n) e = omega arith

-- digits without a leading zero are the decimal of their number
pub decimal_of : (v : Plain) → number_of v < 2 ^ 64 → decimal (number_of v) ≡ v.first ∷ v.others
decimal_of v small =
    let d = digit_below v.first v.low v.high in
    let same : digits_value 10 (v.first ∷ v.others)
    ≡ number_of v = ap (λ (n : ℕ). digits_value_after 10 n v.others)
    (let r = (digit_range v.first d).2 in omega (arith, r)) in
    ap decimal (sym same)
    ∙ decimal-digits_value (numerals_by_value (AllDigits 10) tells_digits) (v.first ∷ v.others) (d, v.digits)
    (omega arith) (λ e. ap (λ (ds : List ℕ). length (v.first ∷ ds)) (v.lead e)) (omega (arith, small, same))

-- the decimal of a number from 1 on has no leading zero
pub positive_of : (n : ℕ) → 1 ≤ n → n < 2 ^ 64 → (v : Positive) × (v.plain.first ∷ v.plain.others ≡ decimal n)
    × (number_of v.plain ≡ n)
positive_of n some small =
    let d = decimal_is_IsNumeral n small in go (decimal n) d.0.0 d.0.1 d.1 (first_decimal n (omega (arith, some)) small)
  where
    go : (ds : List ℕ) → 0 < length ds → AllDigits 10 ds → digits_value 10 ds ≡ n → 48 < get_or ds 0 0 → (v : Positive)
        × (v.plain.first ∷ v.plain.others ≡ ds) × (number_of v.plain ≡ n)
    go [] l all e f = absurd (omega (arith, l))
    go (c ∷ ds) l all e f = let r = digit_range c all.0 in (
      record {
        plain =
            record {
              first = c;
              others = ds;
              low = r.0;
              high = r.1;
              digits = all.1;
              lead = λ z. absurd (omega (arith, z, f));
            };
        some = omega (arith, f);
      },
      refl,
      ap (λ (m : ℕ). digits_value_after 10 m ds) (let k = r.2 in omega (arith, k)) ∙ e,
    )

-- a refusal that is present isn't absent
pub some_none : {K : Type 0} (kind : K) → Some kind ≡ None → ⊥
some_none kind e = cc

-- if a kind that depends on a test is absent, the test fails
pub none_when : {K : Type 0} (test : Bool) (kind : K) → when test kind ≡ None → test ≡ false
none_when true kind e = cc
none_when false kind e = refl

pub when_none : {K : Type 0} (test : Bool) (kind : K) → test ≡ false → when test kind ≡ None
when_none test kind e = ap (λ (v : Bool). when v kind) e

-- numbers that the test doesn't call different are equal, and a number isn't different from itself
pub not_differs : (k n : ℕ) → not (n == k) ≡ false → n ≡ k
not_differs k n h = eqb-true n k (go (n == k) h)
  where
    go : (v : Bool) → not v ≡ false → v ≡ true
    go true h = refl
    go false h = cc

pub differs_not : (k n : ℕ) → n ≡ k → not (n == k) ≡ false
differs_not k n e = grind (arith, nat_tests)

-- a number can be increased within a limit if it isn't at the limit
pub room : (limit n : ℕ) → nat_le limit n ≡ false → n + 1 ≤ limit
room limit n h = grind (arith, nat_tests)

pub has_room : (limit n : ℕ) → n + 1 ≤ limit → nat_le limit n ≡ false
has_room limit n h = grind (arith, nat_tests)

-- a value is small if it isn't too large
pub small_value : (n : ℕ) → nat_lt line_value_limit n ≡ false → n ≤ line_value_limit
small_value n h = grind (arith, nat_tests)

pub value_small : (n : ℕ) → n ≤ line_value_limit → nat_lt line_value_limit n ≡ false
value_small n h = grind (arith, nat_tests)

module _ {S T K : Type 0} (x : ByteText S T K) where
  -- if neither `-` nor a blank is refused, the bytes of a line of values have no fault
  pub bytes_have_no_fault : (o : S) (vs : List ℤ) → x.fault_of_byte o 45 ≡ None → x.fault_of_byte o 32 ≡ None → BytesHaveNoFault x o vs
  bytes_have_no_fault o [] minus blank = tt
  bytes_have_no_fault o (pos n ∷ vs) minus blank = (blank, tt, bytes_have_no_fault o vs minus blank)
  bytes_have_no_fault o (negsuc n ∷ vs) minus blank = (blank, minus, bytes_have_no_fault o vs minus blank)

module _ {S T K : Type 0} (x : ByteText S T K) (h : IsBounded x) where
  -- a number without a fault is below 2^64
  pub small : (s : Spelling S) (n : ℕ) → fault_of_number x s n ≡ None → n < 2 ^ 64
  small s n e = go s.within e
    where
      go : (w : NumberContext) → fault_of_in x w s.own s.numeral.negative n ≡ None → n < 2 ^ 64
      go InNatural e = h.small s.own n e
      go InSigned e = h.small_signed s.own s.numeral.negative n e
      go InLine e = let l = small_value n (none_when (nat_lt line_value_limit n) x.too_large e) in omega (arith, l)
      go Words e = let l = small_value n (none_when (nat_lt line_value_limit n) x.too_large e) in omega (arith, l)

  -- if a number has no fault, each smaller one from 1 on has none
  below : (s : Spelling S) (m n : ℕ) → 1 ≤ m → m ≤ n → fault_of_number x s n ≡ None → fault_of_number x s m ≡ None
  below s m n some l e = go s.within e
    where
      valued : when (nat_lt line_value_limit n) x.too_large ≡ None → when (nat_lt line_value_limit m) x.too_large ≡ None
      valued e =
          let k = small_value n (none_when (nat_lt line_value_limit n) x.too_large e) in
          when_none (nat_lt line_value_limit m) x.too_large (value_small m (omega (arith, l, k)))

      go : (w : NumberContext) → fault_of_in x w s.own s.numeral.negative n ≡ None
          → fault_of_in x w s.own s.numeral.negative m ≡ None
      go InNatural e = h.below s.own m n some l e
      go InSigned e = h.below_signed s.own s.numeral.negative m n some l e
      go InLine e = valued e
      go Words e = valued e

  -- a state with another number being spelled
  abbrev pub with : Spelling S → ℕ → ℕ → Spelling S
  with s n k = record s { numeral = record s.numeral { number = n; spelled = k } }

  -- the fault of a digit is that of the number with this digit
  fault_of_digit : (s : Spelling S) (b : ℕ) → is_ascii_digit b ≡ true
      → other_faults_of_next x s b ≡ fault_of_number x s (s.numeral.number * 10 + (b - 48))
  fault_of_digit s b d =
      ap (λ (v : Bool). cond v (fault_of_number x s (s.numeral.number * 10 + (b - 48)))
      (cond (b == 10) (fault_of_feed x s.within s.own (length s.values)) (x.fault_of_byte s.own b))) d

  -- the state after a digit
  digit_read : (s : Spelling S) (b : ℕ) → is_ascii_digit b ≡ true → s.numeral.number * 10 + (b - 48) < 2 ^ 64
      → (fold_of x).read b s ≡ with s (s.numeral.number * 10 + (b - 48)) (one_more s.numeral.spelled)
  digit_read s b d l =
      let capped : min (s.numeral.number * 10 + (b - 48)) (2 ^ 64)
      ≡ s.numeral.number * 10 + (b - 48) = omega (arith, l) in
      ap (λ (v : Bool). record s {
        numeral =
            cond v (record s.numeral {
              number = min (s.numeral.number * 10 + (b - 48)) (2 ^ 64);
              spelled = one_more s.numeral.spelled;
            })
            (cond (b == 45) (record s.numeral { negative = true; spelled = one_more s.numeral.spelled }) fresh);
      }) d
      ∙ ap (λ (n : ℕ). with s n (one_more s.numeral.spelled)) capped

  -- a digit is read without a fault if the number with it has none
  one_digit : (s : Spelling S) (b n : ℕ) → 48 ≤ b → b ≤ 57 → s.numeral.number * 10 + (b - 48) ≡ n
      → fault_of_number x s n ≡ None → (other_faults_of_next x s b ≡ None)
      × ((fold_of x).read b s ≡ with s n (one_more s.numeral.spelled))
  one_digit s b n low high e k =
      let d = is_digit b low high in
      let l = small s n k in (
        fault_of_digit s b d ∙ ap (fault_of_number x s) e ∙ k,
        digit_read s b d (omega (arith, e, l)) ∙ ap (λ (m : ℕ). with s m (one_more s.numeral.spelled)) e,
      )

  -- digits after a number from 1 on show no fault, if the number with them has none
  digits_pass : (ds : List ℕ) (s : Spelling S) → AllDigits 10 ds → 1 ≤ s.numeral.number
      → fault_of_number x s (digits_value_after 10 s.numeral.number ds) ≡ None
      → (k : ℕ) × Passes (fold_of x) s (reads ds) ×
      (after (fold_of x) s (reads ds) ≡ with s (digits_value_after 10 s.numeral.number ds) k)
  digits_pass [] s all some k = (s.numeral.spelled, tt, refl)
  digits_pass (c ∷ ds) s all some k =
      let r = digit_range c all.0 in
      let n : ℕ = s.numeral.number * 10 + digit_value c in
      let one =
      one_digit s c n r.0 r.1 (let e = r.2 in omega (arith, e))
      (below s n (digits_value_after 10 n ds) (omega (arith, some)) (grows_after n ds) k) in
      let w = digits_pass ds (with s n (one_more s.numeral.spelled)) all.1 (omega (arith, some)) k in (
        w.0,
        (one.0, subst (λ (t : Spelling S). Passes (fold_of x) t (reads ds)) (sym one.1) w.1),
        ap
            (λ (t : Spelling S). after (fold_of x) t (reads ds)) one.1 ∙ w.2,
      )

  -- digits without a leading zero show no fault at the beginning of a number, if the number has none
  plain_pass : (v : Plain) (s : Spelling S) → s.numeral.number ≡ 0 → fault_of_number x s (number_of v) ≡ None
      → (k : ℕ) × Passes (fold_of x) s (reads (v.first ∷ v.others))
      × (after (fold_of x) s (reads (v.first ∷ v.others)) ≡ with s (number_of v) k)
  plain_pass v s none k = go v.others v.digits v.lead k
    where
      go : (ds : List ℕ) → AllDigits 10 ds → (v.first ≡ 48 → ds ≡ [])
          → fault_of_number x s (digits_value_after 10 (v.first - 48) ds) ≡ None
          → (k : ℕ) × Passes (fold_of x) s (Read v.first ∷ reads ds)
          × (after (fold_of x) s (Read v.first ∷ reads ds) ≡ with s (digits_value_after 10 (v.first - 48) ds) k)
      go [] all lead k =
          let one = one_digit s v.first (v.first - 48) v.low v.high (omega (arith, none)) k in
          (one_more s.numeral.spelled, (one.0, tt), one.1)
      go (c ∷ ds) all lead k =
          let some : 1 ≤ v.first - 48 = above v.first v.low (λ e. not_empty c ds (lead e)) in
          let one =
          one_digit s v.first (v.first - 48) v.low v.high (omega (arith, none))
          (below s (v.first - 48) (digits_value_after 10 (v.first - 48) (c ∷ ds)) some
          (grows_after (v.first - 48) (c ∷ ds)) k) in
          let w = digits_pass (c ∷ ds) (with s (v.first - 48) (one_more s.numeral.spelled)) all some k in (
            w.0,
            (one.0, subst (λ (t : Spelling S). Passes (fold_of x) t (reads (c ∷ ds))) (sym one.1) w.1),
            ap
                (λ (t : Spelling S). after (fold_of x) t (reads (c ∷ ds))) one.1 ∙ w.2,
          )

  -- digits without a fault, followed by parts: if all have no fault, the number has none, and the parts have none after
  -- it
  digits_have_no_fault : (ds : List ℕ) (s : Spelling S) (xs : List (Part ℕ Numbered)) → AllDigits 10 ds
      → fault_of_number x s s.numeral.number ≡ None → Stand (fold_of x) (numbers_of x) s (says ds xs)
      → (k : ℕ) × (fault_of_number x s (digits_value_after 10 s.numeral.number ds) ≡ None)
      × Stand (fold_of x) (numbers_of x) (with s (digits_value_after 10 s.numeral.number ds) k) xs
      × (come (fold_of x) (numbers_of x) s (says ds xs)
      ≡ come (fold_of x) (numbers_of x) (with s (digits_value_after 10 s.numeral.number ds) k) xs)
  digits_have_no_fault [] s xs all k stands = (s.numeral.spelled, k, stands, refl)
  digits_have_no_fault (c ∷ ds) s xs all k stands =
      let r = digit_range c all.0 in
      let n : ℕ = s.numeral.number * 10 + digit_value c in
      let same : s.numeral.number * 10 + (c - 48) ≡ n = (let e = r.2 in omega (arith, e)) in
      let here : fault_of_number x s n ≡ None = ap (fault_of_number x s) (sym same) ∙ sym
      (fault_of_digit s c (is_digit c r.0 r.1)) ∙ stands.0 in
      let one = one_digit s c n r.0 r.1 same here in
      let w =
      digits_have_no_fault ds (with s n (one_more s.numeral.spelled)) xs all.1 here
      (subst (λ (t : Spelling S). Stand (fold_of x) (numbers_of x) t (says ds xs)) one.1 stands.1) in
      (w.0, w.1, w.2, ap (λ (t : Spelling S). come (fold_of x) (numbers_of x) t (says ds xs)) one.1 ∙ w.3)

  -- digits without a leading zero at the beginning of a number, followed by parts
  pub plain_stands : (v : Plain) (s : Spelling S) (xs : List (Part ℕ Numbered)) → s.numeral.number ≡ 0
      → Stand (fold_of x) (numbers_of x) s (says (v.first ∷ v.others) xs)
      → (k : ℕ) × (fault_of_number x s (number_of v) ≡ None)
      × Stand (fold_of x) (numbers_of x) (with s (number_of v) k) xs
      × (come (fold_of x) (numbers_of x) s (says (v.first ∷ v.others) xs)
      ≡ come (fold_of x) (numbers_of x) (with s (number_of v) k) xs)
  plain_stands v s xs none stands =
      let same : s.numeral.number * 10 + (v.first - 48) ≡ v.first - 48 = omega (arith, none) in
      let here : fault_of_number x s (v.first - 48)
      ≡ None = ap (fault_of_number x s) (sym same) ∙ sym
      (fault_of_digit s v.first (is_digit v.first v.low v.high)) ∙ stands.0 in
      let one = one_digit s v.first (v.first - 48) v.low v.high same here in
      let w =
      digits_have_no_fault v.others (with s (v.first - 48) (one_more s.numeral.spelled)) xs v.digits here
      (subst (λ (t : Spelling S). Stand (fold_of x) (numbers_of x) t (says v.others xs)) one.1 stands.1) in
      (w.0, w.1, w.2, ap (λ (t : Spelling S). come (fold_of x) (numbers_of x) t (says v.others xs)) one.1 ∙ w.3)

  -- the decimal of a number without a fault shows no fault at the beginning of a number
  decimal_pass : (n : ℕ) (s : Spelling S) → s.numeral.number ≡ 0 → fault_of_number x s n ≡ None → (k : ℕ)
      × Passes (fold_of x) s (reads (decimal n)) × (after (fold_of x) s (reads (decimal n)) ≡ with s n k)
  decimal_pass zero s none k =
      let zeroed : Plain = record {
        first = 48;
        others = [];
        low = omega arith;
        high = omega arith;
        digits = tt;
        lead = λ e. refl;
      } in
      subst (λ (ds : List ℕ). (k : ℕ) × Passes (fold_of x) s (reads ds) × (after (fold_of x) s (reads ds) ≡ with s 0 k))
      (sym (decimal_digit 0 (omega arith))) (plain_pass zeroed s none k)
  decimal_pass (suc m) s none k =
      let v = positive_of (suc m) (omega arith) (small s (suc m) k) in
      let w = plain_pass v.0.plain s none (ap (fault_of_number x s) v.2 ∙ k) in (
        w.0,
        subst (λ (ds : List ℕ). Passes (fold_of x) s (reads ds)) v.1 w.1,
        ap
            (λ (ds : List ℕ). after (fold_of x) s (reads ds)) (sym v.1) ∙ w.2 ∙ ap (λ (n : ℕ). with s n w.0) v.2,
      )

  -- the events of a number and its end mark
  ended : (s t u : Spelling S) (bs : List ℕ) (m : ℕ) → Passes (fold_of x) s (reads bs)
      → after (fold_of x) s (reads bs) ≡ t → done_mark x m t ≡ u
      → Passes (fold_of x) s (reads bs ++ Did m ∷ []) × (after (fold_of x) s (reads bs ++ Did m ∷ []) ≡ u)
  ended s t u bs m p e f = (
    passes_append (fold_of x) s (reads bs) (Did m ∷ []) p tt,
    after_append (fold_of x) s (reads bs) (Did m ∷ []) ∙ ap (done_mark x m) e ∙ f,
  )

  -- the events of a value without a fault show no fault, and lead to the state after it
  value_put : (s : Spelling S) (z : ℤ) → NumberHasNoFault x s (Value z) → Passes (fold_of x) s (value_events z)
      × (after (fold_of x) s (value_events z) ≡ put_number x (Value z) s)
  value_put s (pos n) k =
      let w = decimal_pass n (record s { numeral = fresh }) refl k.1 in
      ended (record s { numeral = fresh }) _ (put_number x (Value (pos n)) s) (decimal n) 1 w.1 w.2 refl
  value_put s (negsuc n) k =
      let begun : Spelling S = record s { numeral = with_byte 45 fresh } in
      let w = decimal_pass (suc n) begun refl k.1 in
      let e = ended begun _ (put_number x (Value (negsuc n)) s) (decimal (suc n)) 1 w.1 w.2 refl in
      ((k.0, e.0), e.1)

  -- the events of a signed number without a fault show no fault, and lead to the state after it
  signed_put : (s : Spelling S) (z : ℤ) → NumberHasNoFault x s (Signed z) → Passes (fold_of x) s (number_events (Signed z))
      × (after (fold_of x) s (number_events (Signed z)) ≡ put_number x (Signed z) s)
  signed_put s (pos n) k =
      let begun : Spelling S = record s { numeral = fresh; within = InSigned } in
      let w = decimal_pass n begun refl k.1 in
      ended begun _ (put_number x (Signed (pos n)) s) (decimal n) 7 w.1 w.2 refl
  signed_put s (negsuc n) k =
      let begun : Spelling S = record s { numeral = with_byte 45 fresh; within = InSigned } in
      let w = decimal_pass (suc n) begun refl k.1 in
      let e = ended begun _ (put_number x (Signed (negsuc n)) s) (decimal (suc n)) 7 w.1 w.2 refl in
      ((k.0, e.0), e.1)

  -- the state within a line of values, and the state after it
  abbrev pub lined : S → Numeral → List ℤ → Spelling S
  lined o m vs = record { own = o; numeral = m; within = InLine; values = vs }

  abbrev pub behind : S → List ℤ → Spelling S
  behind o vs = record { own = x.line vs o; numeral = fresh; within = Words; values = [] }

  -- a small value in a line has no fault
  faultless_of_small : (o : S) (ws : List ℤ) (v : ℤ) → unsigned_abs v ≤ line_value_limit
      → fault_of_value x (lined o fresh ws) v ≡ None
  faultless_of_small o ws (pos n) l = when_none (nat_lt line_value_limit n) x.too_large (value_small n l)
  faultless_of_small o ws (negsuc n) l = when_none (nat_lt line_value_limit (suc n)) x.too_large (value_small (suc n) l)

  pub small_of_faultless : (o : S) (m : Numeral) (ws : List ℤ) (v : ℤ) → fault_of_value x (lined o m ws) v ≡ None
      → unsigned_abs v ≤ line_value_limit
  small_of_faultless o m ws (pos n) e = small_value n (none_when (nat_lt line_value_limit n) x.too_large e)
  small_of_faultless o m ws (negsuc n) e = small_value (suc n) (none_when (nat_lt line_value_limit (suc n)) x.too_large e)

  -- the events of the rest of a line of values show no fault, and lead to the state after it
  values_put : (vs : List ℤ) (o : S) (m : Numeral) (ws : List ℤ) → AreSmall vs → BytesHaveNoFault x o vs
      → x.fault_of_line o (length (ws ++ vs)) ≡ None → Passes (fold_of x) (lined o m ws) (values_events vs)
      × (after (fold_of x) (lined o m ws) (values_events vs) ≡ behind o (ws ++ vs))
  values_put [] o m ws small bytes k = (
    (ap (λ (us : List ℤ). x.fault_of_line o (length us)) (sym (append-nil ws)) ∙ k, tt),
    ap (behind o) (sym (append-nil ws)),
  )
  values_put (v ∷ vs) o m ws small bytes k =
      let s : Spelling S = lined o fresh ws in
      let one = value_put s v (bytes.1, faultless_of_small o ws v small.0) in
      let rest =
      values_put vs o fresh (ws ++ v ∷ []) small.1 bytes.2
      (ap (λ (us : List ℤ). x.fault_of_line o (length us)) (append_assoc ws (v ∷ []) vs) ∙ k) in (
        (
          bytes.0,
          passes_append (fold_of x) s (value_events v) (values_events vs) one.0
              (subst (λ (t : Spelling S). Passes (fold_of x) t (values_events vs)) (sym one.1) rest.0),
        ),
        after_append (fold_of x) s (value_events v) (values_events vs)
            ∙ ap (λ (t : Spelling S). after (fold_of x) t (values_events vs)) one.1 ∙ rest.1
            ∙ ap (behind o) (append_assoc ws (v ∷ []) vs),
      )

  -- numbers and lines are printed by their events
  pub numbers_put : IsPut (fold_of x) (numbers_of x)
  numbers_put = record { each = go }
    where
      go : (s : Spelling S) (z : Numbered) → NumberHasNoFault x s z → Passes (fold_of x) s (number_events z)
          × (after (fold_of x) s (number_events z) ≡ put_number x z s)
      go s (Value z) k = value_put s z k
      go s (Natural n) k =
          let begun : Spelling S = record s { numeral = fresh; within = InNatural } in
          let w = decimal_pass n begun refl k in
          ended begun _ (put_number x (Natural n) s) (decimal n) 2 w.1 w.2 refl
      go s (Signed z) k = signed_put s z k
      go s (Line vs) (l, b, k) = values_put vs s.own fresh [] l b k
