-- A small text is printed and read back: what has to be proved of a text in single bytes.
use Rattle.std.proofs.Common.{◌≡◌, ◌≤◌, ◌+◌, ℕ, zero, suc, List, [], ◌∷◌, ◌++◌, length, refl, ap, sym, subst, ◌∙◌}
use Rattle.std.proofs.Common.{arith, inl, inr, append-nil, append_assoc, length-append}
use Rattle.std.specs.Prelude.{nat_le, not, ◌==◌, codes, true, false}
use Rattle.std.specs.Fmt.{decimal}
use Rattle.std.proofs.lemmas.Bool.Decides.{nat_tests}
use Rattle.text_core.specs.Reading.{Parsed}
use Rattle.text_grammar.specs.declared.numeral.NumberContext.TheVariants.{Words}
use Rattle.text_grammar.specs.Grammars.{alternatives}
use Rattle.text_grammar.specs.Sounding.{is_readable}
use Rattle.text_grammar.specs.Texts.{IsLawful}
use Rattle.text_grammar.specs.Parts.{AllMake, spelled, come, Stand}
use Rattle.text_grammar.specs.ByteTexts.{Spelling, fresh, only, fold_of, numbers_of, grammar_of}
use Rattle.text_grammar.specs.ByteTexts.{texts_of, line_text, HasNumbers, IsBounded}
use Rattle.text_grammar.specs.ByteParts.{ValueOf, parts_of, OwnAreMade}
use Rattle.text_grammar.specs.SmallRows.{Row, Rows, State, is_no_number, rows_bytes, rows_text, AreNumbered, AreFew}
use Rattle.text_grammar.specs.SmallRows.{RowsAreRead, RowsValue, rows_parts, own_parts}
use Rattle.text_grammar.proofs.Numerals.{none_when, when_none, not_differs, differs_not, room, has_room}
use Rattle.text_grammar.proofs.Numerals.{some_none, bytes_have_no_fault}
use Rattle.text_grammar.proofs.ByteLaws.{bytes_lawful}
use Rattle.text_grammar.proofs.ByteDerivations.{IsDerived, by, each_natural, each_line, answered, taken}

-- the numbers of rows are those from 1 to 9
row_number : (n : ℕ) → is_no_number n ≡ false → (1 ≤ n) × (n ≤ 9)
row_number n h = (grind (arith, nat_tests), grind (arith, nat_tests))

number_taken : (n : ℕ) → 1 ≤ n → n ≤ 9 → is_no_number n ≡ false
number_taken n l k = grind (arith, nat_tests)

-- the grammar can be parsed, and has the rules of numbers; numbers without a fault are below 2^64
pub rows_readable : is_readable (grammar_of rows_bytes) ≡ true
rows_readable = refl

pub rows_numbers : HasNumbers rows_bytes.rules
rows_numbers = record {
  value = refl;
  natural = refl;
  number = refl;
  positive = refl;
  digits = refl;
  line = refl;
  values = refl;
  signed = refl;
}

pub rows_bounded : IsBounded rows_bytes
rows_bounded = record {
  small = λ s n e. let l = (row_number n (none_when (is_no_number n) 3 e)).1 in omega (arith, l);
  below = λ s m n some l e.
      let k = (row_number n (none_when (is_no_number n) 3 e)).1 in
      when_none (is_no_number m) 3 (number_taken m some (omega (arith, l, k)));
  small_signed = λ s negative n e. absurd (some_none 1 e);
  below_signed = λ s negative m n some l e. absurd (some_none 1 e);
}

pub rows_lawful : IsLawful (texts_of rows_bytes)
rows_lawful = bytes_lawful rows_bytes rows_readable (λ a b e. e)

-- each alternative of rows gives a value
pub rows_made : OwnAreMade rows_bytes RowsValue own_parts
rows_made = record { text = (λ (rows, u). (rows, refl), tt); others = go }
  where
    go : (n : ℕ) → AllMake (fold_of rows_bytes) (numbers_of rows_bytes) (grammar_of rows_bytes)
        (only rows_bytes.letters) (ValueOf RowsValue own_parts) (parts_of RowsValue own_parts)
        (suc (suc (suc (suc (suc (suc (suc (suc (suc n)))))))))
        (alternatives rows_bytes.rules (suc (suc (suc (suc (suc (suc (suc (suc (suc n))))))))))
    go zero = ((λ (n, (vs, (rows, u))). (record { number = n; values = vs } ∷ rows, refl)), ((λ u. ([], refl)), tt))
    go (suc n) = tt

-- rows with small values are derived
abbrev Derived : (n : ℕ) → ValueOf RowsValue own_parts n → Type 0
Derived n v = IsDerived rows_bytes rows_bounded rows_numbers rows_readable RowsValue own_parts n v

pub rows_derived : (rows : Rows) → AreNumbered rows → Derived 9 rows
rows_derived [] l = by rows_bytes rows_bounded rows_numbers rows_readable RowsValue own_parts 9 _ (inr (inl refl)) tt tt
rows_derived (r ∷ rs) l =
    by rows_bytes rows_bounded rows_numbers rows_readable RowsValue own_parts 9 _ (inl refl)
    (r.number, (r.values, (rs, tt))) (
      each_natural rows_bytes rows_bounded rows_numbers rows_readable RowsValue own_parts r.number
          (let k = l.0.few in omega (arith, k)),
      (
        each_line rows_bytes rows_bounded rows_numbers rows_readable RowsValue own_parts r.values l.0.small,
        (rows_derived rs l.1, tt),
      ),
    )

text_derived : (rows : Rows) → AreNumbered rows → Derived 0 rows
text_derived rows l =
    by rows_bytes rows_bounded rows_numbers rows_readable RowsValue own_parts 0 _ (inl refl) (rows, tt)
    (rows_derived rows l, tt)

-- the parts of rows spell the text of the rows
rows_spell : (rows : Rows) → spelled (fold_of rows_bytes) (numbers_of rows_bytes) (rows_parts rows) ≡ rows_text rows
rows_spell [] = refl
rows_spell (r ∷ rs) =
    ap (λ (bs : List ℕ). codes "row " ++ (decimal r.number ++ (line_text r.values ++ bs))) (rows_spell rs)

-- the state between rows
abbrev at : State → Spelling State
at s = record { own = s; numeral = fresh; within = Words; values = [] }

abbrev behind_row : State → Row → State
behind_row s r = record { rows = s.rows ++ r ∷ []; number = r.number; values = r.values }

-- rows have no fault exactly if each has an allowed number and as many values, and there are at most three
rows_stand : (rows : Rows) (s : State) → AreNumbered rows → length s.rows + length rows ≤ 3
    → Stand (fold_of rows_bytes) (numbers_of rows_bytes) (at s) (rows_parts rows)
rows_stand [] s l few = (refl, (refl, (refl, (refl, tt))))
rows_stand (r ∷ rs) s l few =
    let count = length-append s.rows (r ∷ []) in
    let line = when_none (not (length r.values == r.number)) 4
    (differs_not r.number (length r.values) l.0.counted) in
    let number = when_none (is_no_number r.number) 3 (number_taken r.number l.0.some l.0.few) in
    let first = when_none (nat_le 3 (length s.rows)) 5 (has_room 3 (length s.rows) (omega (arith, few))) in
    let others = rows_stand rs (behind_row s r) l.1 (omega (arith, count, few)) in
    (first, (refl, (refl, (refl, (number, ((l.0.small, bytes_have_no_fault rows_bytes s r.values refl refl, line), others))))))

stand_rows : (rows : Rows) (s : State)
    → Stand (fold_of rows_bytes) (numbers_of rows_bytes) (at s) (rows_parts rows)
    → AreNumbered rows × (length s.rows ≤ 3 → length s.rows + length rows ≤ 3)
stand_rows [] s h = (tt, λ l. omega (arith, l))
stand_rows (r ∷ rs) s h =
    let one = room 3 (length s.rows) (none_when (nat_le 3 (length s.rows)) 5 h.0) in
    let number = row_number r.number (none_when (is_no_number r.number) 3 h.1.1.1.1.0) in
    let line = h.1.1.1.1.1.0 in
    let counted = none_when (not (length r.values == r.number)) 4 line.2 in
    let w = stand_rows rs (behind_row s r) h.1.1.1.1.1.1 in
    let count = length-append s.rows (r ∷ []) in (
      (
        record {
          some = number.0;
          few = number.1;
          counted = not_differs r.number (length r.values) counted;
          small = line.0;
        },
        w.0,
      ),
      λ l. (let m = w.1 (omega (arith, count, one)) in omega (arith, count, m)),
    )

-- the state after rows has those before and these
rows_come : (rows : Rows) (s : State)
    → (come (fold_of rows_bytes) (numbers_of rows_bytes) (at s) (rows_parts rows)).own.rows ≡ s.rows ++ rows
rows_come [] s = sym (append-nil s.rows)
rows_come (r ∷ rs) s = rows_come rs (behind_row s r) ∙ append_assoc s.rows (r ∷ []) rs

-- printed rows are read back, and each text that is read is the printed text of rows
pub rows_read : RowsAreRead
rows_read = record {
  printed = λ rows l.
      taken rows_bytes rows_bounded rows_numbers rows_readable RowsValue own_parts rows_lawful rows
      (text_derived rows l.each) (rows_stand rows rows_bytes.begun l.each (let few = l.few in omega (arith, few)))
      (rows_text rows) (rows_spell rows)
      ∙ ap (λ (found : Rows). Parsed found) (rows_come rows rows_bytes.begun);
  read = λ bytes rows e.
      let w =
      answered rows_bytes rows_bounded rows_numbers rows_readable RowsValue own_parts rows_made rows_lawful bytes
      rows e in
      let same : w.0 ≡ rows = sym (rows_come w.0 rows_bytes.begun) ∙ w.3 in
      let stands = stand_rows w.0 rows_bytes.begun w.2 in
      let few : AreFew w.0 = record {
        each = stands.0;
        few = (let l = stands.1 (omega arith) in omega (arith, l));
      } in
      (ap rows_text (sym same) ∙ sym (rows_spell w.0) ∙ w.1, subst AreFew same few);
}
