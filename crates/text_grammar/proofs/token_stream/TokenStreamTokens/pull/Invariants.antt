use Rattle.std.proofs.Common.{◌≡◌, ◌-◌, length}
use Rattle.text_core.specs.Tokens.{tokens_in}
use Rattle.text_grammar.proofs.token_stream.TokenStreamTokens.pull.Given as goal

-- the tokens of the remaining bytes are those still to come
abbrev pub invariant-loop-first : goal.invariant-loop-first
invariant-loop-first g l =
    tokens_in (g.X.Lexer.lexer_of l.self.lexer) l.self.mode (l.self.len - length l.self.rest.now) 0 l.self.rest.now
    ≡ tokens_in (g.X.Lexer.lexer_of l.initial.self.lexer) l.initial.self.mode (l.initial.self.len - length l.initial.self.rest.now) 0 l.initial.self.rest.now

abbrev pub decreases-loop-first : goal.decreases-loop-first
decreases-loop-first g l = length l.self.rest.now
