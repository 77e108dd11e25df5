-- The grammar of sections, and the classes of their pieces.
use Rattle.std.specs.Prelude.{ℕ, ◌==◌, if◌then◌else◌, List, [], ◌∷◌, ◌++◌, map, slice_index_or}
use Rattle.text_grammar.specs.Grammars.{Grammar, rules_of}
use Rattle.section_text.specs.declared.piece.Word.{Word}
use Rattle.section_text.specs.declared.piece.Word.TheVariants as words
use Rattle.section_text.specs.declared.piece.Sign.{Sign as SignOf}
use Rattle.section_text.specs.declared.piece.Sign.TheVariants as signs
use Rattle.section_text.specs.declared.piece.Sort.{Sort}
use Rattle.section_text.specs.declared.piece.Sort.TheVariants.{Name, Number, Sign, Wrong}
use Rattle.section_text.specs.declared.piece.Piece.{Piece}
use Rattle.section_text.specs.declared.grammar.TheConstants.{CLASSES, ROUNDS, SECTION_GRAMMAR}

-- the class of a word
abbrev pub class_of_word : Word → ℕ
class_of_word words.Copy = 0
class_of_word words.Of = 1
class_of_word words.Facts = 2
class_of_word words.From = 3
class_of_word words.Rule = 4
class_of_word words.To = 5
class_of_word words.By = 6
class_of_word words.Never = 7
class_of_word words.If = 8
class_of_word words.Then = 9
class_of_word words.Else = 10
class_of_word words.Other = 11

-- the class of a sign
abbrev pub class_of_sign : SignOf → ℕ
class_of_sign signs.Blank = 14
class_of_sign signs.LineFeed = 15
class_of_sign signs.OpenSquare = 16
class_of_sign signs.CloseSquare = 17
class_of_sign signs.Open = 18
class_of_sign signs.Close = 19
class_of_sign signs.Semicolon = 20
class_of_sign signs.Minus = 21

-- the class of a sort of pieces: the number 0 has a class of its own
abbrev pub class_of_sort : Sort → ℕ
class_of_sort (Name word) = class_of_word word
class_of_sort (Number n) = if n == 0 then 12 else 13
class_of_sort (Sign sign) = class_of_sign sign
class_of_sort Wrong = 22

-- the class of a piece
abbrev pub class_of : Piece → ℕ
class_of p = class_of_sort p.sort

-- a sample sort of each class, in their order
abbrev pub sample_sorts : List Sort
sample_sorts =
    map Name (words.Copy ∷ words.Of ∷ words.Facts ∷ words.From ∷ words.Rule ∷ words.To ∷ words.By ∷ words.Never
    ∷ words.If ∷ words.Then ∷ words.Else ∷ words.Other ∷ [])
    ++ (Number 0 ∷ Number 1 ∷ [])
    ++ map Sign (signs.Blank ∷ signs.LineFeed ∷ signs.OpenSquare ∷ signs.CloseSquare ∷ signs.Open ∷ signs.Close
    ∷ signs.Semicolon ∷ signs.Minus ∷ [])

-- a piece of a sort, without a position
abbrev pub piece_of : Sort → Piece
piece_of sort = record { sort = sort; at = 0; len = 0 }

-- the grammar
abbrev pub section_grammar : Grammar Piece
section_grammar = record {
  rules = rules_of SECTION_GRAMMAR;
  classes = CLASSES;
  class_of = class_of;
  sample = λ c. piece_of (slice_index_or sample_sorts c Wrong);
  rounds = ROUNDS;
}
