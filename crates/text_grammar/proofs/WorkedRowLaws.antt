-- The worked values of parts, numbers and texts in single bytes hold.
use Rattle.std.proofs.Common.{◌≡◌, ℕ, ◌^◌, List, [], ◌∷◌, map, Some, None, refl, ap, arith}
use Rattle.std.specs.Prelude.{unsigned_abs}
use Rattle.std.specs.Fmt.{digits}
use Rattle.text_grammar.specs.ByteTexts.{Spelling, line_rule, values_rule, value_rule}
use Rattle.text_grammar.specs.SmallRows.{State, rows_bytes}
use Rattle.text_grammar.specs.WorkedRows.{NumeralsAreWorkedOut, PartsAreWorked, ByteTextsAreWorkedOut}
use Rattle.text_grammar.proofs.Numerals.{some_none}
use Rattle.text_grammar.proofs.SmallRowLaws.{rows_bounded, rows_numbers}

pub numerals_worked : NumeralsAreWorkedOut
numerals_worked = record {
  classes = refl;
  bytes = refl;
  negative = refl;
  value = refl;
  behind_letter = refl;
  capped = refl;
  short = (omega arith, (omega arith, tt));
  long = λ h. let l = h.1.0 in omega (arith, l);
  long_below = λ h. let l = h.1.0 in omega (arith, l);
}

-- two lists of bytes differ, and two numbers do
bytes_differ : ◌≡◌ {A = List ℕ} (32 ∷ 49 ∷ 10 ∷ []) (32 ∷ 50 ∷ 10 ∷ []) → ⊥
bytes_differ e = let f : ◌≡◌ {A = ℕ} 49 50 = cc in omega (arith, f)

sizes_differ : ◌≡◌ {A = List ℕ} (2 ∷ []) (1 ∷ []) → ⊥
sizes_differ e = let f : ◌≡◌ {A = ℕ} 2 1 = cc in omega (arith, f)

pub parts_worked : PartsAreWorked
unfolding digits
parts_worked = record {
  text = refl;
  value = refl;
  natural = refl;
  line = refl;
  row_comes = refl;
  value_comes = refl;
  small = ((refl, refl), tt);
  large = λ h. some_none 2 h.0.1;
  nine = (refl, tt);
  ten = λ h. some_none 3 h.0;
  nought = λ h. some_none 3 h.0;
  counted = (((omega arith, (omega arith, tt)), (refl, tt, (refl, tt, tt)), refl), tt);
  surplus = λ h. some_none 4 h.0.2;
  large_line = λ h. let l = h.0.0.1.0 in omega (arith, l);
  third = (refl, tt);
  fourth = λ h. some_none 5 h.0;
  itself = record { spells = refl; stands = (((omega arith, tt), (refl, tt, tt), refl), tt); comes = refl };
  other_text = λ h. bytes_differ h.spells;
  other_end = λ h. sizes_differ (ap (λ (s : Spelling State). map unsigned_abs s.own.values) h.comes);
  none_comes = λ h. let l = h.stands.0.0.0 in omega (arith, l);
}

-- the empty rules aren't those of values, nor those of the rest of a line, and the latter aren't those of a line
no_rules : ([] ≡ value_rule) → ⊥
no_rules e = cc

not_line : (values_rule ≡ line_rule) → ⊥
not_line e = cc

not_values : (line_rule ≡ values_rule) → ⊥
not_values e = cc

pub byte_texts_worked : ByteTextsAreWorkedOut
unfolding digits
byte_texts_worked = record {
  bounded = rows_bounded;
  endless = λ h. let l = h.small rows_bytes.begun (2 ^ 64) refl in omega (arith, l);
  gap = λ h. some_none 3 (h.below rows_bytes.begun 1 2 (omega arith) (omega arith) refl);
  numbers = rows_numbers;
  no_numbers = λ h. no_rules h.value;
  other_line = λ h. not_line h.line;
  other_values = λ h. not_values h.values;
  answers = refl;
}
