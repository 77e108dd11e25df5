-- Cutting bytes into tokens, one by one.
use Rattle.std.proofs.Common.{◌≡◌, ℕ, ◌+◌, ◌-◌, ◌<◌, ◌≤◌, List, ◌∷◌, length, drop, Option, Some, None, ap, sym, ◌∙◌}
use Rattle.std.proofs.Common.{arith, length-drop}
use Rattle.text_core.specs.Tokens.{Lexeme, Lexer, LexesWithin, token_then, tokens_in}
use Rattle.text_core.proofs.Lexing.{tokens_in-first}

module _ {P M : Type 0} (lexer : Lexer P M) (within : (mode : M) → LexesWithin (lexer.lexeme_in mode)) where
  -- the tokens of the remaining bytes of a text of this length: that of the first lexeme, and those of the bytes after
  -- it
  cut_first : (len : ℕ) (mode : M) (text others rest : List ℕ) (b : ℕ) (l : Lexeme (Option P)) → text ≡ b ∷ others → l ≡ lexer.lexeme_in mode b others → rest ≡ drop l.len text → length text ≤ len
      → (tokens_in lexer mode (len - length text) 0 text ≡ token_then (len - length text) l.len l.piece (tokens_in lexer (lexer.mode_behind mode l.piece) (len - length rest) 0 rest))
      × (len - length text + l.len ≡ len - length rest)
  cut_first len mode text others rest b l e is rests fits =
      let w = (within mode).each b others in
      let some : 0 < l.len = (let k = w.0 in let h : (lexer.lexeme_in mode b others).len ≡ l.len = ap (λ (m : Lexeme (Option P)). m.len) (sym is) in omega (arith, k, h)) in
      let most : l.len ≤ length text = (let k = w.1 in let h : (lexer.lexeme_in mode b others).len ≡ l.len = ap (λ (m : Lexeme (Option P)). m.len) (sym is) in let n = ap (length {A = ℕ}) e in omega (arith, k, h, n)) in
      let left : length rest ≡ length text - l.len = ap (length {A = ℕ}) rests ∙ length-drop l.len text in
      let at : len - length text + l.len ≡ len - length rest = omega (arith, most, left, fits) in (
        tokens_in-first lexer mode (len - length text) text others rest b l e is some rests
            ∙ ap (λ (n : ℕ). token_then (len - length text) l.len l.piece (tokens_in lexer (lexer.mode_behind mode l.piece) n 0 rest)) at,
        at,
      )

  -- if the first lexeme is a piece, its token is the first one
  pub cut_piece : (len : ℕ) (mode next : M) (text others rest : List ℕ) (b : ℕ) (l : Lexeme (Option P)) (p : P) → text ≡ b ∷ others → l ≡ lexer.lexeme_in mode b others → rest ≡ drop l.len text → length text ≤ len
      → next ≡ lexer.mode_behind mode l.piece → l.piece ≡ Some p
      → tokens_in lexer mode (len - length text) 0 text ≡ record { piece = p; at = len - length text; upto = len - length rest } ∷ tokens_in lexer next (len - length rest) 0 rest
  cut_piece len mode next text others rest b l p e is rests fits behind some =
      let c = cut_first len mode text others rest b l e is rests fits in
      c.0 ∙ ap (λ (o : Option P). token_then (len - length text) l.len o (tokens_in lexer (lexer.mode_behind mode l.piece) (len - length rest) 0 rest)) some
      ∙ ap (λ (n : ℕ). record { piece = p; at = len - length text; upto = n } ∷ tokens_in lexer (lexer.mode_behind mode l.piece) (len - length rest) 0 rest) c.1
      ∙ ap (λ (m : M). record { piece = p; at = len - length text; upto = len - length rest } ∷ tokens_in lexer m (len - length rest) 0 rest) (sym behind)

  -- if the first lexeme is no piece, its bytes are skipped
  pub cut_passed : (len : ℕ) (mode next : M) (text others rest : List ℕ) (b : ℕ) (l : Lexeme (Option P)) → text ≡ b ∷ others → l ≡ lexer.lexeme_in mode b others → rest ≡ drop l.len text → length text ≤ len
      → next ≡ lexer.mode_behind mode l.piece → l.piece ≡ None
      → tokens_in lexer mode (len - length text) 0 text ≡ tokens_in lexer next (len - length rest) 0 rest
  cut_passed len mode next text others rest b l e is rests fits behind none =
      let c = cut_first len mode text others rest b l e is rests fits in
      c.0 ∙ ap (λ (o : Option P). token_then (len - length text) l.len o (tokens_in lexer (lexer.mode_behind mode l.piece) (len - length rest) 0 rest)) none
      ∙ ap (λ (m : M). tokens_in lexer m (len - length rest) 0 rest) (sym behind)
