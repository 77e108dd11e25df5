-- The grammar of proof files, and the classes of their pieces.
use Rattle.std.specs.Prelude.{ℕ, false, ◌==◌, if◌then◌else◌, List, [], ◌∷◌, ◌++◌, slice_index_or, map}
use Rattle.bound_text.specs.declared.piece.Piece.TheVariants as bound
use Rattle.text_grammar.specs.Grammars.{Grammar, rules_of}
use Rattle.cert_lexer.specs.declared.piece.Word.{Word}
use Rattle.cert_lexer.specs.declared.piece.Word.TheVariants as word
use Rattle.cert_lexer.specs.declared.piece.Sign.{Sign}
use Rattle.cert_lexer.specs.declared.piece.Sign.TheVariants as sign
use Rattle.cert_lexer.specs.declared.piece.Behind.TheVariants as behind
use Rattle.cert_lexer.specs.declared.piece.Piece.{Piece}
use Rattle.cert_lexer.specs.declared.piece.Piece.TheVariants.{First, Name, Number, Sign as ASign, Place, InBound}
use Rattle.cert_lexer.specs.declared.piece.Piece.TheVariants.{Wrong}
use Rattle.cert_lexer.specs.declared.grammar.TheConstants.{CLASSES, ROUNDS, PROOF_GRAMMAR}

-- the class of a word
abbrev pub class_of_word : Word → ℕ
class_of_word word.Lemma = 1
class_of_word word.Gap = 2
class_of_word word.End = 3
class_of_word word.Cite = 4
class_of_word word.Start = 5
class_of_word word.Empty = 6
class_of_word word.Unreached = 7
class_of_word word.Never = 8
class_of_word word.Rank = 9
class_of_word word.Spread = 10
class_of_word word.Cycle = 11
class_of_word word.Weaken = 12
class_of_word word.Cost = 13
class_of_word word.Uses = 14
class_of_word word.Set = 15
class_of_word word.Den = 16
class_of_word word.Forms = 17
class_of_word word.Moves = 18
class_of_word word.Floor = 19
class_of_word word.Up = 20
class_of_word word.Low = 21
class_of_word word.Poly = 22
class_of_word word.Lin = 23
class_of_word word.To = 24
class_of_word word.Shut = 25
class_of_word word.Kept = 26
class_of_word word.Other = 27

-- the class of a sign (a piece of one byte)
abbrev pub class_of_sign : Sign → ℕ
class_of_sign sign.Blank = 32
class_of_sign sign.LineFeed = 33
class_of_sign sign.OpenSquare = 34
class_of_sign sign.CloseSquare = 35
class_of_sign sign.OpenBrace = 36
class_of_sign sign.CloseBrace = 37
class_of_sign sign.Open = 38
class_of_sign sign.Close = 39
class_of_sign sign.Semicolon = 40
class_of_sign sign.Dot = 41
class_of_sign sign.Minus = 42

-- the class of a number: 0, 1, 2 and all others
abbrev pub class_of_number : ℕ → ℕ
class_of_number n = if n == 0 then 28 else if n == 1 then 29 else if n == 2 then 30 else 31

-- the class of a piece
abbrev pub class_of : Piece → ℕ
class_of First = 0
class_of (Name w symbol) = class_of_word w
class_of (Number n) = class_of_number n
class_of (ASign s) = class_of_sign s
class_of (Place symbol b) = 43
class_of (InBound piece len last) = 44
class_of Wrong = 45

-- the words of proof files, in the order of their classes, and the signs
abbrev pub words : List Word
words =
    word.Lemma ∷ word.Gap ∷ word.End ∷ word.Cite ∷ word.Start ∷ word.Empty ∷ word.Unreached ∷ word.Never ∷
    word.Rank ∷ word.Spread ∷ word.Cycle ∷ word.Weaken ∷ word.Cost ∷ word.Uses ∷ word.Set ∷ word.Den ∷
    word.Forms ∷ word.Moves ∷ word.Floor ∷ word.Up ∷ word.Low ∷ word.Poly ∷ word.Lin ∷ word.To ∷ word.Shut ∷
    word.Kept ∷ word.Other ∷ []

abbrev pub signs : List Sign
signs =
    sign.Blank ∷ sign.LineFeed ∷ sign.OpenSquare ∷ sign.CloseSquare ∷ sign.OpenBrace ∷ sign.CloseBrace ∷
    sign.Open ∷ sign.Close ∷ sign.Semicolon ∷ sign.Dot ∷ sign.Minus ∷ []

-- a sample piece of each class, in their order
abbrev pub samples : List Piece
samples =
    First ∷ (map (λ w. Name w 0) words ++ (Number 0 ∷ Number 1 ∷ Number 2 ∷ Number 3 ∷ (map ASign signs
    ++ (Place 0 behind.Nothing ∷ InBound bound.Plus 1 false ∷ Wrong ∷ []))))

-- the grammar
abbrev pub proof_grammar : Grammar Piece
proof_grammar = record {
  rules = rules_of PROOF_GRAMMAR;
  classes = CLASSES;
  class_of = class_of;
  sample = λ c. slice_index_or samples c Wrong;
  rounds = ROUNDS;
}
