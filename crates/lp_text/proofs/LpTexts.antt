-- When texts of linear programs have no fault, which states they lead to, and so which linear programs are answered.
use Rattle.std.proofs.Common.{◌≡◌, ℕ, ◌+◌, ◌<◌, ◌≤◌, Bool, true, false, None, List, [], ◌∷◌, ◌++◌, length, refl, ap, sym}
use Rattle.std.proofs.Common.{subst, ◌∙◌, arith, append_assoc, append-nil, length-append}
use Rattle.std.specs.Prelude.{ℤ, pos, negsuc, unsigned_abs, nat_le, nat_lt, codes}
use Rattle.std.proofs.lemmas.Bool.Decides.{nat_tests}
use Rattle.text_grammar.specs.text_core.Reading.{Parsed, answer}
use Rattle.text_grammar.specs.Texts.{reader}
use Rattle.text_grammar.specs.Parts.{Part, Says, Does, Puts, come, Stand}
use Rattle.text_grammar.specs.declared.numeral.NumberContext.TheVariants.{Words}
use Rattle.text_grammar.specs.ByteTexts.{Spelling, Numbered, Signed, MinusHasNoFault, says, fresh, fold_of, numbers_of}
use Rattle.text_grammar.specs.ByteTexts.{tokens}
use Rattle.text_grammar.proofs.Numerals.{none_when, when_none}
use Rattle.text_grammar.proofs.ByteDerivations.{word_parsed, word_has_no_fault, answered, taken}
use Rattle.lp_text.specs.declared.kind.LpKind.TheVariants.{Syntax, NumberTooLarge, Limit}
use Rattle.lp_text.specs.declared.section.Section.TheVariants.{Head, First, Second, Rows, Right}
use Rattle.lp_text.specs.Lps.{Row, Lp, number_limit, size_limit}
use Rattle.lp_text.specs.Texts.{State, is_too_large, is_beyond, fault_of_costs, lp_bytes, lps}
use Rattle.lp_text.specs.Spelled.{text_of, AreCosts, AreNumbers, IsRowOf, AreRowsOf, IsWithin, IsTextWithin}
use Rattle.lp_text.proofs.LpParts.{LpValue, costs_parts, item_parts, rows_parts, parts_after_second, parts_after_first, lp_parts}
use Rattle.lp_text.proofs.LpParts.{small_if_not_too_large, not_too_large_if_small, columns_valid_if_no_fault, no_fault_if_columns_valid, entry_valid_if_no_fault, no_fault_if_entry_valid, permitted_if_not_beyond}
use Rattle.lp_text.proofs.LpParts.{not_beyond_if_permitted, cost_within_if_not_above, cost_not_above_if_within, bounded, readable, numbers, lps_lawful, lps_made}
use Rattle.lp_text.proofs.LpParts.{lp_derived, lp_spells}

-- the state between numbers
abbrev at : State → Spelling State
at s = record { own = s; numeral = fresh; within = Words; values = [] }

-- from this state the parts have no fault; the state that they lead to
abbrev HaveNoFaultFrom : State → List (Part ℕ Numbered) → Type 0
HaveNoFaultFrom s xs = Stand (fold_of lp_bytes) (numbers_of lp_bytes) (at s) xs

abbrev state_after : State → List (Part ℕ Numbered) → Spelling State
state_after s xs = come (fold_of lp_bytes) (numbers_of lp_bytes) (at s) xs

-- there is room for one more exactly if the test fails
room_if_less : (n k : ℕ) → k < n → nat_le n k ≡ false
room_if_less n k l = grind (arith, nat_tests)

less_if_room : (n k : ℕ) → nat_le n k ≡ false → k < n
less_if_room n k h = grind (arith, nat_tests)

-- the test for missing numbers fails exactly if none is missing
none_missing_if_enough : (n k : ℕ) → n ≤ k → nat_lt k n ≡ false
none_missing_if_enough n k l = grind (arith, nat_tests)

enough_if_none_missing : (n k : ℕ) → nat_lt k n ≡ false → n ≤ k
enough_if_none_missing n k h = grind (arith, nat_tests)

-- a line of costs, in a state that stores the costs so far
module _ (n : ℕ) (f : List ℕ → State) (more : (cs : List ℕ) (c : ℕ) → lp_bytes.natural c (f cs) ≡ f (cs ++ c ∷ []))
    (byte : (cs : List ℕ) (b : ℕ) → lp_bytes.fault_of_byte (f cs) b ≡ fault_of_costs n (length cs) b) where
  costs_stand : (ds cs : List ℕ) (xs : List (Part ℕ Numbered)) → length cs + length ds ≡ n → AreCosts ds
      → HaveNoFaultFrom (f (cs ++ ds)) xs → HaveNoFaultFrom (f cs) (costs_parts ds ++ xs)
  costs_stand [] cs xs e h rest = (
    byte cs 10 ∙ when_none (nat_lt (length cs) n) Syntax (none_missing_if_enough n (length cs) (omega (arith, e))),
    subst (λ (es : List ℕ). HaveNoFaultFrom (f es) xs) (append-nil cs) rest,
  )
  costs_stand (d ∷ ds) cs xs e h rest =
      let count = length-append cs (d ∷ []) in (
        byte cs 32 ∙ when_none (nat_le n (length cs)) Syntax (room_if_less n (length cs) (omega (arith, e))),
        (
          when_none (nat_lt number_limit d) NumberTooLarge (cost_not_above_if_within d h.0),
          subst (λ (s : State). HaveNoFaultFrom s (costs_parts ds ++ xs)) (sym (more cs d))
              (costs_stand ds (cs ++ d ∷ []) xs (omega (arith, count, e)) h.1
              (subst (λ (es : List ℕ). HaveNoFaultFrom (f es) xs) (sym (append_assoc cs (d ∷ []) ds)) rest)),
        ),
      )

  stand_costs : (ds cs : List ℕ) (xs : List (Part ℕ Numbered)) → length cs ≤ n → HaveNoFaultFrom (f cs) (costs_parts ds ++ xs)
      → (length cs + length ds ≡ n) × AreCosts ds × HaveNoFaultFrom (f (cs ++ ds)) xs
  stand_costs [] cs xs l h =
      let m = enough_if_none_missing n (length cs) (none_when (nat_lt (length cs) n) Syntax (sym (byte cs 10) ∙ h.0)) in
      (omega (arith, l, m), tt, subst (λ (es : List ℕ). HaveNoFaultFrom (f es) xs) (sym (append-nil cs)) h.1)
  stand_costs (d ∷ ds) cs xs l h =
      let one = less_if_room n (length cs) (none_when (nat_le n (length cs)) Syntax (sym (byte cs 32) ∙ h.0)) in
      let count = length-append cs (d ∷ []) in
      let w = stand_costs ds (cs ++ d ∷ []) xs (omega (arith, count, one))
      (subst (λ (s : State). HaveNoFaultFrom s (costs_parts ds ++ xs)) (more cs d) h.1.1) in
      let total = w.0 in (
        omega (arith, count, total),
        (cost_within_if_not_above d (none_when (nat_lt number_limit d) NumberTooLarge h.1.0), w.1),
        subst (λ (es : List ℕ). HaveNoFaultFrom (f es) xs) (append_assoc cs (d ∷ []) ds) w.2,
      )

  costs_come : (ds cs : List ℕ) (xs : List (Part ℕ Numbered)) → state_after (f cs) (costs_parts ds ++ xs) ≡ state_after (f (cs ++ ds)) xs
  costs_come [] cs xs = ap (λ (es : List ℕ). state_after (f es) xs) (sym (append-nil cs))
  costs_come (d ∷ ds) cs xs =
      ap (λ (s : State). state_after s (costs_parts ds ++ xs)) (more cs d)
      ∙ (costs_come ds (cs ++ d ∷ []) xs ∙ ap (λ (es : List ℕ). state_after (f es) xs) (append_assoc cs (d ∷ []) ds))

-- the rows, after both lists of costs
module _ (z : ℤ) (first second : List ℕ) where
  abbrev n : ℕ
  n = unsigned_abs z

  abbrev row_with : List ℤ → ℤ → Row
  row_with zs right = record { numbers = zs; right = right }

  abbrev g : List Row → List ℤ → State
  g rs zs = record { lp = record { columns = z; first = first; second = second; rows = rs }; section = Rows; numbers = zs }

  abbrev at_right : List Row → List ℤ → State
  at_right rs zs = record {
    lp = record { columns = z; first = first; second = second; rows = rs };
    section = Right;
    numbers = zs;
  }

  -- the `-` of a right side isn't refused, nor that of a number for which there is room
  minus_right : (rs : List Row) (zs : List ℤ) (right : ℤ) → MinusHasNoFault lp_bytes (at_right rs zs) right
  minus_right rs zs (pos k) = tt
  minus_right rs zs (negsuc k) = refl

  minus_entry : (rs : List Row) (zs : List ℤ) (y : ℤ) → length zs < n → MinusHasNoFault lp_bytes (g rs zs) y
  minus_entry rs zs (pos k) l = tt
  minus_entry rs zs (negsuc k) l = when_none (nat_le n (length zs)) Syntax (room_if_less n (length zs) l)

  item_stand : (ys zs : List ℤ) (right : ℤ) (rs : List Row) (xs : List (Part ℕ Numbered)) → length zs + length ys ≡ n
      → AreNumbers ys → unsigned_abs right ≤ number_limit → HaveNoFaultFrom (g (rs ++ row_with (zs ++ ys) right ∷ []) []) xs
      → HaveNoFaultFrom (g rs zs) (item_parts ys right ++ xs)
  item_stand [] zs right rs xs e h l rest = (
    when_none (nat_lt (length zs) n) Syntax (none_missing_if_enough n (length zs) (omega (arith, e))),
    (
      refl,
      (
        (minus_right rs zs right, when_none (is_too_large right) NumberTooLarge (not_too_large_if_small right l)),
        (refl, subst (λ (us : List ℤ). HaveNoFaultFrom (g (rs ++ row_with us right ∷ []) []) xs) (append-nil zs) rest),
      ),
    ),
  )
  item_stand (y ∷ ys) zs right rs xs e h l rest =
      let count = length-append zs (y ∷ []) in
      let room : length zs < n = omega (arith, e) in (
        (minus_entry rs zs y room, no_fault_if_entry_valid n (length zs) y (room_if_less n (length zs) room) (not_too_large_if_small y h.0)),
        (
          refl,
          item_stand ys (zs ++ y ∷ []) right rs xs (omega (arith, count, e)) h.1 l
              (subst (λ (us : List ℤ). HaveNoFaultFrom (g (rs ++ row_with us right ∷ []) []) xs) (sym (append_assoc zs (y ∷ []) ys)) rest),
        ),
      )

  stand_item : (ys zs : List ℤ) (right : ℤ) (rs : List Row) (xs : List (Part ℕ Numbered)) → length zs ≤ n
      → HaveNoFaultFrom (g rs zs) (item_parts ys right ++ xs)
      → (length zs + length ys ≡ n) × AreNumbers ys × (unsigned_abs right ≤ number_limit)
      × HaveNoFaultFrom (g (rs ++ row_with (zs ++ ys) right ∷ []) []) xs
  stand_item [] zs right rs xs l h =
      let m = enough_if_none_missing n (length zs) (none_when (nat_lt (length zs) n) Syntax h.0) in (
        omega (arith, l, m),
        tt,
        small_if_not_too_large right (none_when (is_too_large right) NumberTooLarge h.1.1.0.1),
        subst (λ (us : List ℤ). HaveNoFaultFrom (g (rs ++ row_with us right ∷ []) []) xs) (sym (append-nil zs)) h.1.1.1.1,
      )
  stand_item (y ∷ ys) zs right rs xs l h =
      let entry = entry_valid_if_no_fault n (length zs) y h.0.1 in
      let room = less_if_room n (length zs) entry.0 in
      let count = length-append zs (y ∷ []) in
      let w = stand_item ys (zs ++ y ∷ []) right rs xs (omega (arith, count, room)) h.1.1 in
      let total = w.0 in (
        omega (arith, count, total),
        (small_if_not_too_large y entry.1, w.1),
        w.2,
        subst (λ (us : List ℤ). HaveNoFaultFrom (g (rs ++ row_with us right ∷ []) []) xs) (append_assoc zs (y ∷ []) ys) w.3,
      )

  item_comes : (ys zs : List ℤ) (right : ℤ) (rs : List Row) (xs : List (Part ℕ Numbered))
      → state_after (g rs zs) (item_parts ys right ++ xs) ≡ state_after (g (rs ++ row_with (zs ++ ys) right ∷ []) []) xs
  item_comes [] zs right rs xs = ap (λ (us : List ℤ). state_after (g (rs ++ row_with us right ∷ []) []) xs) (sym (append-nil zs))
  item_comes (y ∷ ys) zs right rs xs =
      item_comes ys (zs ++ y ∷ []) right rs xs
      ∙ ap (λ (us : List ℤ). state_after (g (rs ++ row_with us right ∷ []) []) xs) (append_assoc zs (y ∷ []) ys)

  rows_stand : (qs rs : List Row) → AreRowsOf n qs → length rs + length qs ≤ size_limit → HaveNoFaultFrom (g rs []) (rows_parts qs)
  rows_stand [] rs h l = (refl, (refl, (refl, (refl, tt))))
  rows_stand (r ∷ qs) rs h l =
      let count = length-append rs (r ∷ []) in
      let total = h.0.count in (
        when_none (nat_le size_limit (length rs)) Limit (room_if_less size_limit (length rs) (omega (arith, l))),
        (
          refl,
          (
            refl,
            (
              refl,
              item_stand r.numbers [] r.right rs (rows_parts qs) (omega (arith, total)) h.0.numbers h.0.right
                  (rows_stand qs (rs ++ r ∷ []) h.1 (omega (arith, count, l))),
            ),
          ),
        ),
      )

  stand_rows : (qs rs : List Row) → length rs ≤ size_limit → HaveNoFaultFrom (g rs []) (rows_parts qs)
      → AreRowsOf n qs × (length rs + length qs ≤ size_limit)
  stand_rows [] rs l h = (tt, omega (arith, l))
  stand_rows (r ∷ qs) rs l h =
      let room = less_if_room size_limit (length rs) (none_when (nat_le size_limit (length rs)) Limit h.0) in
      let item = stand_item r.numbers [] r.right rs (rows_parts qs) (omega arith) h.1.1.1.1 in
      let count = length-append rs (r ∷ []) in
      let w = stand_rows qs (rs ++ r ∷ []) (omega (arith, count, room)) item.3 in
      let total = item.0 in let all = w.1 in
      ((record { count = omega (arith, total); numbers = item.1; right = item.2 }, w.0), omega (arith, count, all))

  rows_come : (qs rs : List Row) → (state_after (g rs []) (rows_parts qs)).own.lp
      ≡ record { columns = z; first = first; second = second; rows = rs ++ qs }
  rows_come [] rs = ap (λ (ps : List Row). record { columns = z; first = first; second = second; rows = ps }) (sym (append-nil rs))
  rows_come (r ∷ qs) rs =
      ap (λ (s : Spelling State). s.own.lp) (item_comes r.numbers [] r.right rs (rows_parts qs))
      ∙ (rows_come qs (rs ++ r ∷ [])
      ∙ ap (λ (ps : List Row). record { columns = z; first = first; second = second; rows = ps }) (append_assoc rs (r ∷ []) qs))

-- the state at the beginning, after the number of columns, and in the first and the second costs
abbrev empty : State
empty = lp_bytes.begun

abbrev in_first : ℤ → List ℕ → State
in_first z cs = record { lp = record { columns = z; first = cs; second = []; rows = [] }; section = First; numbers = [] }

abbrev in_second : ℤ → List ℕ → List ℕ → State
in_second z cs ds = record { lp = record { columns = z; first = cs; second = ds; rows = [] }; section = Second; numbers = [] }

-- the parts after the number of columns
abbrev parts_after_columns : Lp → List (Part ℕ Numbered)
parts_after_columns p = costs_parts p.first ++ parts_after_first p

-- the parts after the head
abbrev parts_after_head : Lp → List (Part ℕ Numbered)
parts_after_head p = Puts (Signed p.columns) ∷ Says 10 ∷ says (codes "first") (Does 8 ∷ parts_after_columns p)

-- the text of the head, up to the number of columns
abbrev head : List ℕ
head = codes "koat-lp 1\ncols "

minus_head : (z : ℤ) → MinusHasNoFault lp_bytes empty z
minus_head (pos k) = tt
minus_head (negsuc k) = refl

-- the text of a linear program has no fault exactly if the program is within the limits
lp_has_no_fault : (p : Lp) → IsWithin p → HaveNoFaultFrom empty (lp_parts 0 p)
lp_has_no_fault p h =
    let columns : unsigned_abs p.columns ≡ h.columns = ap unsigned_abs h.counted in
    let few = h.few in
    let a = h.first in
    let b = h.second in
    let rows =
    rows_stand p.columns p.first p.second p.rows [] (subst (λ (k : ℕ). AreRowsOf k p.rows) (sym columns) h.rows)
    (let l = h.few_rows in omega (arith, l)) in
    let second =
    costs_stand (unsigned_abs p.columns) (in_second p.columns p.first) (λ cs c. refl) (λ cs b. refl) p.second []
    (parts_after_second p) (omega (arith, columns, b)) h.second_costs rows in
    let first =
    costs_stand (unsigned_abs p.columns) (in_first p.columns) (λ cs c. refl) (λ cs b. refl) p.first [] (parts_after_first p)
    (omega (arith, columns, a)) h.first_costs (refl, (refl, (refl, (refl, (refl, (refl, second)))))) in
    let number =
    no_fault_if_columns_valid p.columns (not_too_large_if_small p.columns (omega (arith, columns, few)))
    (subst (λ (z : ℤ). is_beyond z ≡ false) (sym h.counted) (not_beyond_if_permitted h.columns h.some h.few)) in
    word_parsed lp_bytes (at empty) head (parts_after_head p) refl
    ((minus_head p.columns, number), (refl, (refl, (refl, (refl, (refl, (refl, first)))))))

lp_within_if_no_fault : (p : Lp) → HaveNoFaultFrom empty (lp_parts 0 p) → IsWithin p
lp_within_if_no_fault p h =
    let line = word_has_no_fault lp_bytes (at empty) head (parts_after_head p) h in
    let taken_number = columns_valid_if_no_fault p.columns line.0.1 in
    let counted = permitted_if_not_beyond p.columns taken_number.1 in
    let columns : unsigned_abs p.columns ≡ counted.0 = ap unsigned_abs counted.1 in
    let first = stand_costs (unsigned_abs p.columns) (in_first p.columns) (λ cs c. refl) (λ cs b. refl) p.first []
    (parts_after_first p) (omega arith) line.1.1.1.1.1.1.1 in
    let second = stand_costs (unsigned_abs p.columns) (in_second p.columns p.first) (λ cs c. refl) (λ cs b. refl) p.second []
    (parts_after_second p) (omega arith) first.2.1.1.1.1.1.1 in
    let rows = stand_rows p.columns p.first p.second p.rows [] (omega arith) second.2 in
    let a = first.0 in let b = second.0 in
    record {
      columns = counted.0;
      counted = counted.1;
      some = counted.2;
      few = counted.3;
      first = omega (arith, a, columns);
      first_costs = first.1;
      second = omega (arith, b, columns);
      second_costs = second.1;
      rows = subst (λ (k : ℕ). AreRowsOf k p.rows) columns rows.0;
      few_rows = (let l = rows.1 in omega (arith, l));
    }

-- reading the text of a linear program ends with this program
lp_is_result : (p : Lp) → (state_after empty (lp_parts 0 p)).own.lp ≡ p
lp_is_result p =
    ap (λ (s : Spelling State). s.own.lp)
    (costs_come (unsigned_abs p.columns) (in_first p.columns) (λ cs c. refl) (λ cs b. refl) p.first [] (parts_after_first p)
    ∙ costs_come (unsigned_abs p.columns) (in_second p.columns p.first) (λ cs c. refl) (λ cs b. refl) p.second []
    (parts_after_second p))
    ∙ rows_come p.columns p.first p.second p.rows []

-- if a linear program is answered, the bytes are its text, and it is within the limits
pub parsed_written : (bytes : List ℕ) (p : Lp) → answer (reader lps) (length bytes) (tokens bytes) ≡ Parsed p
    → IsTextWithin bytes p
parsed_written bytes p e =
    let w = answered lp_bytes bounded numbers readable LpValue lp_parts lps_made lps_lawful bytes p e in
    let same : w.0 ≡ p = sym (lp_is_result w.0) ∙ w.3 in
    record { text = ap text_of (sym same) ∙ (sym (lp_spells w.0) ∙ w.1); within = subst IsWithin same (lp_within_if_no_fault w.0 w.2) }

-- bytes that are the text of a linear program within the limits have no fault
pub written_parsed : (bytes : List ℕ) (p : Lp) → IsTextWithin bytes p
    → answer (reader lps) (length bytes) (tokens bytes) ≡ Parsed p
written_parsed bytes p h =
    taken lp_bytes bounded numbers readable LpValue lp_parts lps_lawful p (lp_derived p h.within) (lp_has_no_fault p h.within) bytes
    (lp_spells p ∙ h.text)
    ∙ ap (λ (q : Lp). Parsed q) (lp_is_result p)
