-- The worked values of values of nonterminals hold.
use Rattle.std.proofs.Common.{◌≡◌, ℕ, List, [], ◌∷◌, refl, ap, arith}
use Rattle.std.specs.Fmt.{digits}
use Rattle.text_grammar.specs.Grammars.{Derives}
use Rattle.text_grammar.specs.declared.symbol.Symbol.TheVariants.{Made}
use Rattle.text_grammar.specs.Parts.{spelled}
use Rattle.text_grammar.specs.ByteTexts.{Spelling, Natural, only, fold_of, numbers_of, grammar_of}
use Rattle.text_grammar.specs.SmallRows.{Rows, State, rows_bytes, AreNumbered, RowsValue, rows_parts, own_parts}
use Rattle.text_grammar.specs.WorkedRows.{between}
use Rattle.text_grammar.specs.WorkedValues.{ValuesAreWorkedOut, Given, given_parts, Valued, two_rows}
use Rattle.text_grammar.proofs.PartLaws.{derived_value}
use Rattle.text_grammar.proofs.Numerals.{numbers_put, some_none}
use Rattle.text_grammar.proofs.ByteLaws.{bytes_only}
use Rattle.text_grammar.proofs.ByteDerivations.{are_made}
use Rattle.text_grammar.proofs.SmallRowLaws.{rows_bounded, rows_numbers, rows_readable, rows_made, rows_derived}

-- an empty list has no element
no_first : {X : Type 0} (x : X) (xs : List X) → [] ≡ x ∷ xs → ⊥
no_first x xs e = cc

first_none : {X : Type 0} (x : X) (xs : List X) → x ∷ xs ≡ [] → ⊥
first_none x xs e = cc

-- the text of rows isn't empty
some_text : (rows : Rows) → spelled (fold_of rows_bytes) (numbers_of rows_bytes) (rows_parts rows) ≡ [] → ⊥
some_text [] e = first_none _ _ e
some_text (r ∷ rs) e = first_none _ _ e

-- the empty text isn't rows, and isn't derived
no_line : Valued 9 [] [] → ⊥
no_line h = let w = h (between [] 0 []) tt in some_text w.0 w.1.spells

nothing_derived : Derives (grammar_of rows_bytes) (Made 9 ∷ []) [] [] → ⊥
nothing_derived d =
    no_line (derived_value (fold_of rows_bytes) (numbers_of rows_bytes) (grammar_of rows_bytes)
    (only rows_bytes.letters) Given given_parts (bytes_only rows_bytes rows_readable)
    (are_made rows_bytes rows_bounded rows_numbers rows_readable RowsValue own_parts rows_made) 9 d)

-- each of two rows has a permitted number
two_numbered : AreNumbered two_rows
two_numbered = (
  record { some = omega arith; few = omega arith; counted = refl; small = (omega arith, (omega arith, tt)) },
  (record { some = omega arith; few = omega arith; counted = refl; small = (omega arith, tt) }, tt),
)

pub values_worked : ValuesAreWorkedOut
unfolding digits
values_worked = record {
  only_its = bytes_only rows_bytes rows_readable;
  not_only = λ h. let e : ◌≡◌ {A = ℕ} 49 48 = h.one 1 48 49 refl refl in omega (arith, e);
  put = numbers_put rows_bytes rows_bounded;
  nothing_put =
      λ h. let e : ◌≡◌ {A = ℕ} 1 0 =
      ap (λ (s : Spelling State). s.own.number) (h.each (between [] 0 []) (Natural 1) refl).1 in omega (arith, e);
  all_put = λ h. some_none 3 (h.each (between [] 0 []) (Natural 10) tt).0.1.0;
  own_made = rows_made;
  none_made = λ h. no_first _ _ ((h.others 0).0 (1, ([], ([], tt)))).1;
  made = are_made rows_bytes rows_bounded rows_numbers rows_readable RowsValue own_parts rows_made;
  no_value = λ h. ((h.each 5).1.1.1.0 tt (between [] 0 []) (between [] 0 []) []
      (record { spells = refl; stands = tt; comes = refl })).0;
  last_line =
      derived_value (fold_of rows_bytes) (numbers_of rows_bytes) (grammar_of rows_bytes) (only rows_bytes.letters)
      Given given_parts (bytes_only rows_bytes rows_readable)
      (are_made rows_bytes rows_bounded rows_numbers rows_readable RowsValue own_parts rows_made) 9
      (rows_derived [] tt);
  no_line = no_line;
  derived = rows_derived two_rows two_numbered;
  not_derived = nothing_derived;
  all_derived = (rows_derived two_rows two_numbered, tt);
  not_all_derived = λ h. nothing_derived h.0;
}
