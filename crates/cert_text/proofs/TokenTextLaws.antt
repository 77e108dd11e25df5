-- Pieces whose bytes are cut into them, and bytes that are spelled by their pieces.
use Rattle.std.proofs.Common.{◌≡◌, ℕ, zero, suc, ◌+◌, ◌-◌, List, [], ◌∷◌, ◌++◌, length, take, drop, Option, Some, refl, ap}
use Rattle.std.proofs.Common.{subst, ◌∙◌, arith}
use Rattle.text_grammar.specs.text_core.Tokens.{Lexeme, Lexer, Token, pieces, tokens_in, token_then}
use Rattle.cert_text.specs.TokenTexts.{spelled_all, AreCut, AllSpellBack, TokensAreTexts}

-- the first n bytes and the rest make all bytes
taken_and_rest : (n : ℕ) (bytes : List ℕ) → take n bytes ++ drop n bytes ≡ bytes
taken_and_rest zero bytes = refl
taken_and_rest (suc n) [] = refl
taken_and_rest (suc n) (b ∷ bytes) = ap (λ (bs : List ℕ). b ∷ bs) (taken_and_rest n bytes)

module _ {P M : Type 0} (lexer : Lexer P M) (spelled : P → List ℕ) where
  -- bytes that are skipped make no token
  passed_over : (mode : M) (at : ℕ) (xs ys : List ℕ) → tokens_in lexer mode at (length xs) (xs ++ ys)
      ≡ tokens_in lexer mode (at + length xs) 0 ys
  passed_over mode at [] ys =
      let e : at ≡ at + 0 = omega arith in ap (λ (n : ℕ). tokens_in lexer mode n 0 ys) e
  passed_over mode at (x ∷ xs) ys =
      let e : at + 1 + length xs ≡ at + suc (length xs) = omega arith in
      passed_over mode (at + 1) xs ys ∙ ap (λ (n : ℕ). tokens_in lexer mode n 0 ys) e

  -- the tokens of bytes that begin with a lexeme are that one and those of the rest
  tokens_with : (mode : M) (at first : ℕ) (rest : List ℕ) (l : Lexeme (Option P))
      → lexer.lexeme_in mode first rest ≡ l → tokens_in lexer mode at 0 (first ∷ rest)
      ≡ token_then at l.len l.piece (tokens_in lexer (lexer.mode_behind mode l.piece) (at + 1) (l.len - 1) rest)
  tokens_with mode at first rest l e =
      subst
      (λ (k : Lexeme (Option P)). tokens_in lexer mode at 0 (first ∷ rest)
      ≡ token_then at k.len k.piece (tokens_in lexer (lexer.mode_behind mode k.piece) (at + 1) (k.len - 1) rest)) e refl

  -- pieces that are cut from their bytes are the pieces of these bytes
  cut_apart : (mode : M) (at : ℕ) (ps : List P) → AreCut lexer spelled mode ps
      → pieces (tokens_in lexer mode at 0 (spelled_all lexer spelled ps)) ≡ ps
  cut_apart mode at [] c = refl
  cut_apart mode at (p ∷ ps) (c, cs) =
      let behind = lexer.mode_behind mode (Some p) in
      let rest = spelled_all lexer spelled ps in
      let less : suc (length c.others) - 1 ≡ length c.others = omega arith in
      let bytes : spelled_all lexer spelled (p ∷ ps) ≡ c.first ∷ (c.others ++ rest) = ap (λ (bs : List ℕ). bs ++ rest) c.bytes in
      ap (λ (bs : List ℕ). pieces (tokens_in lexer mode at 0 bs)) bytes
      ∙ (ap (λ (ts : List (Token P)). pieces ts) (tokens_with mode at c.first (c.others ++ rest)
      (record { piece = Some p; len = suc (length c.others) }) c.cut)
      ∙ ap (λ (qs : List P). p ∷ qs) (ap (λ (n : ℕ). pieces (tokens_in lexer behind (at + 1) n (c.others ++ rest))) less
      ∙ ap (λ (ts : List (Token P)). pieces ts) (passed_over behind (at + 1) c.others rest)
      ∙ cut_apart behind (at + 1 + length c.others) ps cs))

  -- bytes whose lexemes are spelled by them are the bytes of their pieces, after those that are skipped
  spelled_back : (mode : M) (at skip : ℕ) (bytes : List ℕ) → AllSpellBack lexer spelled mode skip bytes
      → spelled_all lexer spelled (pieces (tokens_in lexer mode at skip bytes)) ≡ drop skip bytes
  spelled_back mode at zero [] h = refl
  spelled_back mode at (suc skip) [] h = refl
  spelled_back mode at (suc skip) (b ∷ bytes) h = spelled_back mode (at + 1) skip bytes h
  spelled_back mode at zero (b ∷ bytes) (s, h) =
      let l = lexer.lexeme_in mode b bytes in
      let left : l.len - 1 ≡ s.some = ap (λ (n : ℕ). n - 1) s.len ∙ omega arith in
      let rest = tokens_in lexer (lexer.mode_behind mode l.piece) (at + 1) (l.len - 1) bytes in
      let tail : spelled_all lexer spelled (pieces rest) ≡ drop s.some bytes =
      spelled_back (lexer.mode_behind mode l.piece) (at + 1) (l.len - 1) bytes h
      ∙ ap (λ (n : ℕ). drop n bytes) left in
      ap (λ (o : Option P). spelled_all lexer spelled (pieces (token_then at l.len o rest))) s.begins
      ∙ (ap (λ (bs : List ℕ). bs ++ spelled_all lexer spelled (pieces rest)) s.spells
      ∙ ap (λ (bs : List ℕ). b ∷ bs) (ap (λ (bs : List ℕ). take s.some bytes ++ bs) tail ∙ taken_and_rest s.some bytes))

  -- both directions together
  pub tokens_are_texts : TokensAreTexts lexer spelled
  tokens_are_texts = record { apart = cut_apart; back = λ mode at bytes h. spelled_back mode at 0 bytes h }
