use Rattle.std.proofs.Common.{ℕ, length, ap, arith}
use Rattle.text_grammar.specs.text_core.Tokens.{Lexeme}
use Rattle.std.specs.Prelude.{Option}
use Rattle.while_text.specs.declared.piece.Sort.{Sort}
use Rattle.while_text.specs.Within.{sort_fits}
use Rattle.while_text.proofs.lexer.WhileLexerLexer.lexeme.Goals as goal

pub pieced-requires : goal.pieced-requires
pieced-requires c =
    let e = ap (λ (l : Lexeme (Option Sort)). l.len) c.sort_at.ensures in
    let h = (sort_fits c.args.first c.args.others.now).1 in
    let b = ap (length {A = ℕ}) c.requires in
    omega (arith, e, h, b)
