use Rattle.std.proofs.Common.{ℕ, length, ap, arith}
use Rattle.text_grammar.specs.text_core.NameIndex.{names_in}
use Rattle.bound_text.proofs.TextLexing.{lexes_within}
use Rattle.cert_lexer.proofs.lexer.ProofLexer.in_bound.Goals as goal

pub split_at-requires : goal.split_at-requires
split_at-requires c =
    let w = (lexes_within (names_in c.args.self.now.arguments)).each c.args.first c.args.others.now in
    let l = c.bound_lexeme-lexeme.ensures.len in
    let b = ap (length {A = ℕ}) c.requires in
    let k = w.1 in
    omega (arith, k, l, b)
