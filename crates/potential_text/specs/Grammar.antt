-- The grammar of lines, and the classes of their pieces.
use Rattle.std.specs.Prelude.{ℕ, ◌==◌, if◌then◌else◌, List, [], ◌∷◌, ◌++◌, map, slice_index_or}
use Rattle.text_grammar.specs.Grammars.{Grammar, rules_of}
use Rattle.potential_text.specs.declared.piece.Word.{Word}
use Rattle.potential_text.specs.declared.piece.Word.TheVariants as words
use Rattle.potential_text.specs.declared.piece.Sign.{Sign as SignOf}
use Rattle.potential_text.specs.declared.piece.Sign.TheVariants as signs
use Rattle.potential_text.specs.declared.piece.Sort.{Sort}
use Rattle.potential_text.specs.declared.piece.Sort.TheVariants.{Name, Number, Sign, Wrong}
use Rattle.potential_text.specs.declared.piece.Piece.{Piece}
use Rattle.potential_text.specs.declared.grammar.TheConstants.{CLASSES, ROUNDS, LINE_GRAMMAR}

-- the class of a word
abbrev pub class_of_word : Word → ℕ
class_of_word words.Signed = 0
class_of_word words.Fall = 1
class_of_word words.Peak = 2
class_of_word words.Row = 3
class_of_word words.Rows = 4
class_of_word words.Zero = 5
class_of_word words.Times = 6
class_of_word words.Least = 7
class_of_word words.Add = 8
class_of_word words.Among = 9
class_of_word words.Sized = 10
class_of_word words.Phases = 11
class_of_word words.Functions = 12
class_of_word words.Den = 13
class_of_word words.Moves = 14
class_of_word words.Pays = 15
class_of_word words.Counts = 16
class_of_word words.Keep = 17
class_of_word words.Reset = 18
class_of_word words.By = 19
class_of_word words.Most = 20
class_of_word words.To = 21
class_of_word words.Part = 22
class_of_word words.Sum = 23
class_of_word words.Product = 24
class_of_word words.Maximum = 25
class_of_word words.Minimum = 26
class_of_word words.Quotient = 27
class_of_word words.Root = 28
class_of_word words.Power = 29
class_of_word words.Claim = 30
class_of_word words.Time = 31
class_of_word words.Cost = 32
class_of_word words.Total = 33
class_of_word words.Above = 34
class_of_word words.Below = 35
class_of_word words.Other = 36

-- the class of a sign
abbrev pub class_of_sign : SignOf → ℕ
class_of_sign signs.Blank = 39
class_of_sign signs.LineFeed = 40
class_of_sign signs.OpenSquare = 41
class_of_sign signs.CloseSquare = 42
class_of_sign signs.OpenCurly = 43
class_of_sign signs.CloseCurly = 44
class_of_sign signs.Open = 45
class_of_sign signs.Close = 46
class_of_sign signs.Semicolon = 47
class_of_sign signs.Minus = 48
class_of_sign signs.Star = 49
class_of_sign signs.Dot = 50

-- the class of a sort of pieces: 0 is of another class than the numbers over it
abbrev pub class_of_sort : Sort → ℕ
class_of_sort (Name word) = class_of_word word
class_of_sort (Number n) = if n == 0 then 37 else 38
class_of_sort (Sign sign) = class_of_sign sign
class_of_sort Wrong = 51

-- the class of a piece
abbrev pub class_of : Piece → ℕ
class_of p = class_of_sort p.sort

-- a sort of each class, in their order
abbrev pub sample_sorts : List Sort
sample_sorts =
    map Name (words.Signed ∷ words.Fall ∷ words.Peak ∷ words.Row ∷ words.Rows ∷ words.Zero ∷ words.Times ∷ words.Least ∷
    words.Add ∷ words.Among ∷ words.Sized ∷ words.Phases ∷ words.Functions ∷ words.Den ∷ words.Moves ∷ words.Pays ∷
    words.Counts ∷ words.Keep ∷ words.Reset ∷ words.By ∷ words.Most ∷ words.To ∷ words.Part ∷ words.Sum ∷
    words.Product ∷ words.Maximum ∷ words.Minimum ∷ words.Quotient ∷ words.Root ∷ words.Power ∷ words.Claim ∷
    words.Time ∷ words.Cost ∷ words.Total ∷ words.Above ∷ words.Below ∷ words.Other ∷ [])
    ++ (Number 0 ∷ Number 1 ∷ [])
    ++ map Sign (signs.Blank ∷ signs.LineFeed ∷ signs.OpenSquare ∷ signs.CloseSquare ∷ signs.OpenCurly ∷ signs.CloseCurly ∷
    signs.Open ∷ signs.Close ∷ signs.Semicolon ∷ signs.Minus ∷ signs.Star ∷ signs.Dot ∷ [])

-- a piece of a sort, without a position
abbrev pub piece_of : Sort → Piece
piece_of sort = record { sort = sort; at = 0; len = 0 }

-- the grammar
abbrev pub line_grammar : Grammar Piece
line_grammar = record {
  rules = rules_of LINE_GRAMMAR;
  classes = CLASSES;
  class_of = class_of;
  sample = λ c. piece_of (slice_index_or sample_sorts c Wrong);
  rounds = ROUNDS;
}
