-- Pieces and tokens of the code as plain data.
use Rattle.std.specs.Prelude.{ℕ, List, [], ◌∷◌, Option, Some, None}
use Rattle.std.specs.Borrow.{Bor}
use Rattle.text_core.specs.Tokens as plain
use Rattle.expr_reader.specs.Views.{piece_of as inner_of}
use Rattle.its_text.specs.Pieces as pieces
use Rattle.its_text.specs.Lexing as lexing
use Rattle.its_reader.specs.declared.piece.Piece.{Piece}
use Rattle.its_reader.specs.declared.piece.Piece.TheVariants.{Inner, Comma, Arrow, CostOpen, CostClose, GuardMark}
use Rattle.its_reader.specs.declared.piece.Piece.TheVariants.{SquareOpen, SquareClose, Or, Remark, Wrong}
use Rattle.its_reader.specs.declared.piece.Piece.TheVariants.{Strange}
use Rattle.its_reader.specs.declared.piece.Token.{Token}
use Rattle.its_reader.specs.declared.lexer.Lexeme.{Lexeme}
use Rattle.its_reader.specs.declared.lexer.Lexer.{Lexer}
use Rattle.its_reader.specs.declared.mode.Mode.{Mode}
use Rattle.its_reader.specs.declared.mode.Mode.TheVariants.{Outside, AtKeyword, Within, InComment}

-- a piece
abbrev pub piece_of : Piece → pieces.Piece
piece_of (Inner p) = pieces.In (inner_of p)
piece_of Comma = pieces.Comma
piece_of Arrow = pieces.Arrow
piece_of CostOpen = pieces.CostOpen
piece_of CostClose = pieces.CostClose
piece_of GuardMark = pieces.GuardMark
piece_of SquareOpen = pieces.SquareOpen
piece_of SquareClose = pieces.SquareClose
piece_of Or = pieces.Disjoining
piece_of (Remark bytes) = pieces.Remark bytes.now
piece_of Wrong = pieces.Wrong
piece_of Strange = pieces.Strange

-- the plain mode of a mode of the lexer
abbrev pub mode_of : Mode → lexing.Mode
mode_of Outside = lexing.Outside
mode_of AtKeyword = lexing.AtKeyword
mode_of (Within depth) = lexing.Within depth
mode_of InComment = lexing.InComment

-- how many brackets are open in a mode
abbrev pub depth_of : Mode → ℕ
depth_of Outside = 0
depth_of AtKeyword = 0
depth_of (Within depth) = depth
depth_of InComment = 0

-- the piece of a lexeme, if it has one
abbrev pub maybe_of : Option Piece → Option pieces.Piece
maybe_of None = None
maybe_of (Some p) = Some (piece_of p)

abbrev pub lexeme_of : Lexeme → plain.Lexeme (Option pieces.Piece)
lexeme_of l = record { piece = maybe_of l.piece; len = l.len }

-- an optional name
abbrev pub words_of : Option (Bor (List ℕ)) → Option (List ℕ)
words_of None = None
words_of (Some w) = Some w.now

-- the tokens that are still to come from a lexer
abbrev pub tokens_in : Lexer → List (plain.Token pieces.Piece)
tokens_in l = plain.tokens_in lexing.lexer (mode_of l.mode) l.at 0 l.text.now

-- the plain token of a token of the code
abbrev pub token_of : Token → plain.Token pieces.Piece
token_of t = record { piece = piece_of t.piece; at = t.at; upto = t.end }

abbrev pub listed : Option Token → List (plain.Token pieces.Piece) → List (plain.Token pieces.Piece)
listed None ts = []
listed (Some t) ts = token_of t ∷ ts

-- the piece of an optional token
abbrev pub piece_in_token : Option Token → Option pieces.Piece
piece_in_token None = None
piece_in_token (Some t) = Some (piece_of t.piece)
