use Rattle.std.proofs.Common.{ℕ, Bool, cond, List, ◌∷◌, length, ap, sym, ◌∙◌}
use Rattle.std.specs.Char.{is_ascii_digit}
use Rattle.text_grammar.specs.text_core.NameIndex.{names_in}
use Rattle.text_grammar.specs.text_core.Prefixes.{prefix, rest}
use Rattle.text_grammar.specs.text_core.Names.{continues_name}
use Rattle.text_grammar.specs.text_core.Tokens.{Lexeme}
use Rattle.bound_text.specs.Pieces.{Piece}
use Rattle.bound_text.specs.Lexing.{lexeme_with, mark_at, number_at, word_at}
use Rattle.cert_lexer.specs.Lexing.{bound_piece}
use Rattle.cert_lexer.proofs.bound_pieces.bound_lexeme.Goals as goal

pub returns-then-is_ascii_digit-clause-piece : goal.returns-then-is_ascii_digit-clause-piece
returns-then-is_ascii_digit-clause-piece c =
    let names = names_in c.args.names.now in
    let n = length names in
    let b = c.args.first in
    let bytes = c.args.others.now in
    let digits = number_at (b ∷ prefix is_ascii_digit bytes) in
    let mark = lexeme_with (mark_at b) 1 in
    c.number.ensures.piece n c.args.before
    ∙ ap (λ (ds : List ℕ). (bound_piece n c.args.before (number_at ds).piece)) c.leading_digits.ensures.digits
    ∙ sym (ap (λ (v : Bool). bound_piece n c.args.before
    (cond {A = Lexeme Piece} v (word_at names (b ∷ prefix continues_name bytes) (rest continues_name bytes))
    (cond {A = Lexeme Piece} (is_ascii_digit b) digits mark)).piece)
    (sym c.begins_name.ensures ∙ c.if-begins_name.false)
    ∙ ap (λ (v : Bool). bound_piece n c.args.before (cond {A = Lexeme Piece} v digits mark).piece)
    (sym c.is_ascii_digit.ensures.value ∙ c.if-is_ascii_digit.true))
