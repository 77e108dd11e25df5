use Rattle.std.proofs.Common.{sym, ◌∙◌}
use Rattle.text_grammar.specs.Marks.{lexeme_of}
use Rattle.text_grammar.proofs.CutLaws.{cut_piece, cut_passed}
use Rattle.text_grammar.proofs.token_stream.TokenStreamTokens.pull.Goals as goal

pub returns-in-Some-piece : goal.returns-in-Some-piece
returns-in-Some-piece g c = sym c.loop-first.invariant
    ∙ cut_piece (g.X.Lexer.lexer_of c.loop-first.self.lexer) (g.met.X.Lexer.within c.loop-first.self.lexer) c.loop-first.self.len c.loop-first.self.mode c.behind-self.result c.loop-first.self.rest.now c.in-Some.others.now
    c.split_at.result.1.now c.in-Some.first.now (lexeme_of c.lexeme-lexeme.result) c.in-Some-piece.piece c.in-Some.ensures.cases.0 c.lexeme-lexeme.ensures c.split_at.ensures.back c.loop-first.self.within c.behind-self.ensures c.in-Some-piece.is

pub loop-first-preserved : goal.loop-first-preserved
loop-first-preserved g c = sym
    (cut_passed (g.X.Lexer.lexer_of c.loop-first.self.lexer) (g.met.X.Lexer.within c.loop-first.self.lexer) c.loop-first.self.len c.loop-first.self.mode c.behind-self.result c.loop-first.self.rest.now c.in-Some.others.now
    c.split_at.result.1.now c.in-Some.first.now (lexeme_of c.lexeme-lexeme.result) c.in-Some.ensures.cases.0 c.lexeme-lexeme.ensures c.split_at.ensures.back c.loop-first.self.within c.behind-self.ensures c.in_default-piece.is)
    ∙ c.loop-first.invariant
