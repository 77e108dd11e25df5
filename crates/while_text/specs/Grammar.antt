-- The grammar of while programs, and the classes of their tokens.
use Rattle.std.specs.Prelude.{ℕ, List, [], ◌∷◌, map, slice_index_or}
use Rattle.text_grammar.specs.Grammars.{Grammar, rules_of}
use Rattle.while_text.specs.declared.piece.Sort.{Sort}
use Rattle.while_text.specs.declared.piece.Sort.TheVariants as sorts
use Rattle.while_text.specs.declared.piece.Follower.TheVariants as followers
use Rattle.while_text.specs.declared.piece.Piece.{Piece}
use Rattle.while_text.specs.declared.grammar.TheConstants.{CLASSES, ROUNDS, WHILE_GRAMMAR}

-- The class of a sort of tokens: all relations have one class, and so do all bytes that begin no token.
abbrev pub class_of_sort : Sort → ℕ
class_of_sort sorts.Input = 0
class_of_sort sorts.Skip = 1
class_of_sort sorts.While = 2
class_of_sort sorts.If = 3
class_of_sort sorts.Else = 4
class_of_sort sorts.Truth = 5
class_of_sort sorts.Name = 6
class_of_sort (sorts.Number n) = 7
class_of_sort sorts.Becomes = 8
class_of_sort sorts.Question = 9
class_of_sort sorts.Semicolon = 10
class_of_sort sorts.Comma = 11
class_of_sort sorts.Open = 12
class_of_sort sorts.Close = 13
class_of_sort sorts.BlockOpen = 14
class_of_sort sorts.BlockClose = 15
class_of_sort sorts.Joint = 16
class_of_sort sorts.AtLeast = 17
class_of_sort sorts.MoreThan = 17
class_of_sort sorts.AtMost = 17
class_of_sort sorts.LessThan = 17
class_of_sort sorts.Equal = 17
class_of_sort sorts.Plus = 18
class_of_sort sorts.Minus = 19
class_of_sort sorts.Times = 20
class_of_sort sorts.Caret = 21
class_of_sort sorts.Strange = 22
class_of_sort sorts.Wrong = 22

-- The class of a token.
abbrev pub class_of : Piece → ℕ
class_of p = class_of_sort p.sort

-- A sort of each class, in the order of the classes.
abbrev pub sample_sorts : List Sort
sample_sorts =
    sorts.Input ∷ sorts.Skip ∷ sorts.While ∷ sorts.If ∷ sorts.Else ∷ sorts.Truth ∷ sorts.Name ∷ sorts.Number 0
    ∷ sorts.Becomes ∷ sorts.Question ∷ sorts.Semicolon ∷ sorts.Comma ∷ sorts.Open ∷ sorts.Close ∷ sorts.BlockOpen
    ∷ sorts.BlockClose ∷ sorts.Joint ∷ sorts.AtLeast ∷ sorts.Plus ∷ sorts.Minus ∷ sorts.Times ∷ sorts.Caret ∷ []

-- A token of a sort, without a position.
abbrev pub piece_of : Sort → Piece
piece_of sort = record { sort = sort; at = 0; len = 0; follower = followers.Other }

-- The grammar of while programs.
abbrev pub while_grammar : Grammar Piece
while_grammar = record {
  rules = rules_of WHILE_GRAMMAR;
  classes = CLASSES;
  class_of = class_of;
  sample = λ c. piece_of (slice_index_or sample_sorts c sorts.Wrong);
  rounds = ROUNDS;
}
