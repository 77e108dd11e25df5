-- Tokens and refusals of the code as plain data.
use Rattle.std.specs.Prelude.{ℕ, List, Option, Some, None}
use Rattle.text_core.specs.Tokens.{Token, Lexeme, Lexer, tokens_in}
use Rattle.text_core.specs.Readers.{Fault}
use Rattle.text_grammar.specs.declared.token_stream.Lexeme as code_lexeme
use Rattle.text_grammar.specs.declared.token_stream.OneMode.{OneMode}
use Rattle.text_grammar.specs.declared.token_stream.OneMode.TheVariants.{Plain}
use Rattle.text_grammar.specs.declared.token.Token as code_token
use Rattle.text_grammar.specs.declared.token.Fault as code_fault

-- a token as plain data
abbrev pub token_of : {P : Type 0} → code_token.Token P → Token P
token_of t = record { piece = t.piece; at = t.at; upto = t.upto }

-- a refusal as plain data
abbrev pub refusal_of : {K : Type 0} → code_fault.Fault K → Fault K
refusal_of x = record { kind = x.kind; at = x.at }

-- the plain refusal of an optional one
abbrev pub fault_of : {K : Type 0} → Option (code_fault.Fault K) → Option (Fault K)
fault_of None = None
fault_of (Some x) = Some (refusal_of x)

-- the plain lexeme of a lexeme of the code
abbrev pub lexeme_of : {P : Type 0} → code_lexeme.Lexeme P → Lexeme (Option P)
lexeme_of l = record { piece = l.piece; len = l.len }

-- the plain lexer of one with a single mode
abbrev pub lexer_of : {P : Type 0} → (ℕ → List ℕ → Lexeme (Option P)) → Lexer P OneMode
lexer_of lexeme_at = record { lexeme_in = λ mode. lexeme_at; mode_behind = λ mode piece. mode }

-- the tokens of bytes, by a lexer with a single mode
abbrev pub tokens_of : {P : Type 0} → (ℕ → List ℕ → Lexeme (Option P)) → List ℕ → List (Token P)
tokens_of lexeme_at bytes = tokens_in (lexer_of lexeme_at) Plain 0 0 bytes
