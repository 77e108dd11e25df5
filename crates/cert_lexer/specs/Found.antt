-- The tables of the code as plain data.
use Rattle.std.specs.Prelude.{List, map}
use Rattle.its_model.specs.model.Programs.{Name}
use Rattle.text_grammar.specs.text_core.NameIndex.{names_in}
use Rattle.text_grammar.specs.text_core.Tokens.{Lexer}
use Rattle.cert_lexer.specs.declared.names.Symbols.{Symbols}
use Rattle.cert_lexer.specs.declared.lexer.ProofLexer.{ProofLexer}
use Rattle.cert_lexer.specs.declared.piece.Piece.{Piece}
use Rattle.cert_lexer.specs.declared.piece.Mode.{Mode}
use Rattle.cert_lexer.specs.Lexing.{lexer_with}

-- the names of symbols in a table, in order
abbrev pub symbols_in : Symbols → List Name
symbols_in l = map (λ k. k.now) l.names.keys

-- how the code's lexer cuts
abbrev pub lexer_in : ProofLexer → Lexer Piece Mode
lexer_in l = lexer_with (symbols_in l.symbols) (names_in l.arguments)
