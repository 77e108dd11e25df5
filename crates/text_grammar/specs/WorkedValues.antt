-- Worked values of nonterminals, for a small text of rows.
use Rattle.std.specs.Prelude.{ℕ, List, [], ◌∷◌, codes, pos, negsuc, Some, ⊤}
use Rattle.text_grammar.specs.declared.symbol.Symbol.{Symbol}
use Rattle.text_grammar.specs.declared.symbol.Symbol.TheVariants.{Piece, Made}
use Rattle.text_grammar.specs.Grammars.{Event}
use Rattle.text_grammar.specs.Parts.{Part, Values, IsOnly, IsPut, AreMade, StandsFor, Derived, AreDerived}
use Rattle.text_grammar.specs.ByteTexts.{Numbered, only, reads, fold_of, numbers_of, grammar_of}
use Rattle.text_grammar.specs.ByteParts.{ValueOf, parts_of, OwnAreMade}
use Rattle.text_grammar.specs.SmallRows.{Rows, rows_bytes, RowsValue, own_parts}
use Rattle.text_grammar.specs.WorkedRows.{row}

-- the values of the nonterminals of rows, and the parts that print them
abbrev pub Given : ℕ → Type 0
Given n = ValueOf RowsValue own_parts n

abbrev pub given_parts : (n : ℕ) → Given n → List (Part ℕ Numbered)
given_parts n v = parts_of RowsValue own_parts n v

-- a printing of all values by no parts
abbrev pub no_parts : (n : ℕ) → Given n → List (Part ℕ Numbered)
no_parts n v = []

-- events of a nonterminal that show no fault come from a value; a value is derived; values of symbols are derived
abbrev pub Valued : ℕ → List (Event ℕ) → List ℕ → Type 0
Valued n es ps = StandsFor (fold_of rows_bytes) (numbers_of rows_bytes) (grammar_of rows_bytes)
    (only rows_bytes.letters) Given given_parts n es ps

abbrev pub DerivedBy : ((n : ℕ) → Given n → List (Part ℕ Numbered)) → (n : ℕ) → Given n → Type 0
DerivedBy parts n v = Derived (fold_of rows_bytes) (numbers_of rows_bytes) (grammar_of rows_bytes)
    (only rows_bytes.letters) Given parts n v

abbrev pub AllDerivedBy : (parts : (n : ℕ) → Given n → List (Part ℕ Numbered)) → (ss : List Symbol)
    → Values (grammar_of rows_bytes) (only rows_bytes.letters) Given parts ss → Type 0
AllDerivedBy parts ss vs = AreDerived (fold_of rows_bytes) (numbers_of rows_bytes) (grammar_of rows_bytes)
    (only rows_bytes.letters) Given parts ss vs

-- two rows
abbrev pub two_rows : Rows
two_rows = row 2 (pos 1 ∷ negsuc 1 ∷ []) ∷ row 1 (pos 0 ∷ []) ∷ []

-- worked values of the small text, each with a change that violates it
pub record ValuesAreWorkedOut : Type 0 where
  -- each class with only one byte contains that byte; it isn't `0` for each class
  pub only_its : IsOnly (grammar_of rows_bytes) (only rows_bytes.letters)
  pub not_only : ¬ IsOnly (grammar_of rows_bytes) (λ c. Some 48)
  -- numbers and lines are printed by their events; they aren't if they don't change the state, nor if they never have a
  -- fault
  pub put : IsPut (fold_of rows_bytes) (numbers_of rows_bytes)
  pub nothing_put : ¬ IsPut (fold_of rows_bytes) (record (numbers_of rows_bytes) { put = λ z s. s })
  pub all_put : ¬ IsPut (fold_of rows_bytes) (record (numbers_of rows_bytes) { Fine = λ s z. ⊤ })
  -- values of the symbols of an alternative give a value of its nonterminal; they don't if rows are printed by no
  -- parts, nor if there are no values
  pub own_made : OwnAreMade rows_bytes RowsValue own_parts
  pub none_made : ¬ OwnAreMade rows_bytes RowsValue (λ n w. [])
  pub made : AreMade (fold_of rows_bytes) (numbers_of rows_bytes) (grammar_of rows_bytes) (only rows_bytes.letters)
      Given given_parts
  pub no_value : ¬ AreMade (fold_of rows_bytes) (numbers_of rows_bytes) (grammar_of rows_bytes)
      (only rows_bytes.letters) (λ n. ⊥) (λ n v. [])
  -- the last line by itself is rows, and the empty text isn't
  pub last_line : Valued 9 (reads (codes "end\n")) (codes "end\n")
  pub no_line : ¬ Valued 9 [] []
  -- rows are derived, also before a line feed; they aren't if they are printed by no parts
  pub derived : DerivedBy given_parts 9 two_rows
  pub not_derived : ¬ DerivedBy no_parts 9 two_rows
  pub all_derived : AllDerivedBy given_parts (Made 9 ∷ Piece 5 ∷ []) (two_rows, tt)
  pub not_all_derived : ¬ AllDerivedBy no_parts (Piece 5 ∷ Made 9 ∷ []) (two_rows, tt)
