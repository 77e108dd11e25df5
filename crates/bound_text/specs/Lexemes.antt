-- Lexemes of the code as plain data.
use Rattle.text_core.specs.Tokens as plain
use Rattle.bound_text.specs.Pieces as pieces
use Rattle.bound_text.specs.Lexing.{lexeme_with}
use Rattle.bound_text.specs.Printing.{piece_of}
use Rattle.bound_text.specs.declared.lexer.Lexeme.{Lexeme}

-- a piece with the number of its bytes, as plain data
abbrev pub lexeme_of : Lexeme → plain.Lexeme pieces.Piece
lexeme_of l = lexeme_with (piece_of l.piece) l.len
