-- The words after the command as they are written: options, positionals, and the words after `--`.
use Rattle.std.specs.Prelude.{◌≡◌, ℕ, Bool, true, not, ◌==◌, List, [], ◌∷◌, ◌++◌, Option, Some, None, IsTrue, ⊤}
use Rattle.std.specs.Prelude.{codes}

-- a word as its bytes
abbrev pub Word : Type 0
Word = List ℕ

abbrev pub Words : Type 0
Words = List Word

-- whether a word is a positional where options are permitted: it doesn't begin with `-`, or it is `-` alone
abbrev pub is_plain : Word → Bool
is_plain [] = true
is_plain (b ∷ []) = true
is_plain (b ∷ c ∷ word) = not (b == 45)

-- whether a word can be the value of an option: it doesn't begin with `-`
abbrev pub is_value : Word → Bool
is_value [] = true
is_value (b ∷ word) = not (b == 45)

-- what is written on a command line: `--pivots V`, `--pivots=V`, or a positional
pub data Item : Type 0 where
  OptionThenValue : Word → Item
  OptionWithValue : Word → Item
  Positional : Word → Item

-- the item is permitted where options are
abbrev pub IsItem : Item → Type 0
IsItem (OptionThenValue value) = IsTrue (is_value value)
IsItem (OptionWithValue value) = IsTrue (is_value value)
IsItem (Positional word) = IsTrue (is_plain word)

-- each of the items is permitted where options are
abbrev pub AreItems : List Item → Type 0
AreItems [] = ⊤
AreItems (item ∷ items) = IsItem item × AreItems items

-- the words of the items, and then, where there are words after it, `--` with these words
abbrev pub words_of_items : List Item → Option Words → Words
words_of_items [] None = []
words_of_items [] (Some after_end) = codes "--" ∷ after_end
words_of_items (OptionThenValue value ∷ items) after_end = codes "--pivots" ∷ value ∷ words_of_items items after_end
words_of_items (OptionWithValue value ∷ items) after_end = (codes "--pivots=" ++ value) ∷ words_of_items items after_end
words_of_items (Positional word ∷ items) after_end = word ∷ words_of_items items after_end

-- the values of the option, in order
abbrev pub values_of : List Item → Words
values_of [] = []
values_of (OptionThenValue value ∷ items) = value ∷ values_of items
values_of (OptionWithValue value ∷ items) = value ∷ values_of items
values_of (Positional word ∷ items) = values_of items

-- the positionals, in order: those among the items, and all words after `--`
abbrev pub positionals_of : List Item → Option Words → Words
positionals_of [] None = []
positionals_of [] (Some after_end) = after_end
positionals_of (OptionThenValue value ∷ items) after_end = positionals_of items after_end
positionals_of (OptionWithValue value ∷ items) after_end = positionals_of items after_end
positionals_of (Positional word ∷ items) after_end = word ∷ positionals_of items after_end

-- the words are written of items that are permitted there, and have these values of the option and these positionals
pub record AreWordsWith (words values positionals : Words) : Type 0 where
  pub items : List Item
  pub after_end : Option Words
  pub proper : AreItems items
  pub spelled : words ≡ words_of_items items after_end
  pub has_values : values ≡ values_of items
  pub has_positionals : positionals ≡ positionals_of items after_end
