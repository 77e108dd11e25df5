-- The tokens of a text are in order of position, and those after the first one are the tokens of the bytes after it.
use Rattle.std.proofs.Common.{◌≡◌, ℕ, zero, suc, ◌+◌, ◌-◌, ◌≤◌, ◌<◌, List, [], ◌∷◌, length, drop, Option, Some, None}
use Rattle.std.proofs.Common.{refl, ap, sym, subst, ◌∙◌, arith}
use Rattle.text_core.specs.Tokens.{Token, Lexeme, Lexer, pieces, token_then, tokens_in, lexer_with_one_mode}
use Rattle.text_core.specs.Tokens.{tokens_from, AreInOrder, LexesWithin}

-- tokens in order from a position on are in order from each position before it
in_order_from : {P : Type 0} (ts : List (Token P)) (a b n : ℕ) → a ≤ b → AreInOrder b ts n → AreInOrder a ts n
in_order_from [] a b n h o = omega (arith, h, o)
in_order_from (t ∷ ts) a b n h o = ((let p = o.0 in omega (arith, h, p)), o.1, o.2)

-- a token, followed by others in order, is in order with them
one_in_order : {P : Type 0} (at len : ℕ) (o : Option P) (ts : List (Token P)) (n : ℕ) → 0 < len → AreInOrder (at + 1 + (len - 1)) ts n → AreInOrder at (token_then at len o ts) n
one_in_order at len None ts n some h = in_order_from ts at (at + 1 + (len - 1)) n (omega arith) h
one_in_order at len (Some p) ts n some h = (
  omega arith,
  omega (arith, some),
  subst (λ (q : ℕ). AreInOrder q ts n) (let e : at + 1 + (len - 1) ≡ at + len = omega (arith, some) in e) h,
)

module _ {P M : Type 0} (lexer : Lexer P M) where
  -- the tokens after skipped bytes are those of the remaining bytes
  pub tokens_in-drop : (mode : M) (k at : ℕ) (bytes : List ℕ) → tokens_in lexer mode at k bytes ≡ tokens_in lexer mode (at + k) 0 (drop k bytes)
  tokens_in-drop mode zero at [] = refl
  tokens_in-drop mode (suc k) at [] = refl
  tokens_in-drop mode zero at (b ∷ bytes) = ap (λ (p : ℕ). tokens_in lexer mode p 0 (b ∷ bytes)) (let e : at ≡ at + 0 = omega arith in e)
  tokens_in-drop mode (suc k) at (b ∷ bytes) =
      tokens_in-drop mode k (at + 1) bytes ∙ ap (λ (p : ℕ). tokens_in lexer mode p 0 (drop k bytes)) (let e : at + 1 + k ≡ at + suc k = omega arith in e)

  -- the tokens of a text are its first lexeme's token, if it is a piece, and then the tokens after it
  pub tokens_in-first : (mode : M) (at : ℕ) (text others behind : List ℕ) (b : ℕ) (l : Lexeme (Option P)) → text ≡ b ∷ others → l ≡ lexer.lexeme_in mode b others → 0 < l.len
      → behind ≡ drop l.len text → tokens_in lexer mode at 0 text ≡ token_then at l.len l.piece (tokens_in lexer (lexer.mode_behind mode l.piece) (at + l.len) 0 behind)
  tokens_in-first mode at text others behind b l e is some rests =
      ap (tokens_in lexer mode at 0) e
      ∙ ap (λ (m : Lexeme (Option P)). token_then at m.len m.piece (tokens_in lexer (lexer.mode_behind mode m.piece) (at + 1) (m.len - 1) others)) (sym is)
      ∙ ap (token_then at l.len l.piece)
      (tokens_in-drop (lexer.mode_behind mode l.piece) (l.len - 1) (at + 1) others
      ∙ ap (λ (p : ℕ). tokens_in lexer (lexer.mode_behind mode l.piece) p 0 (drop (l.len - 1) others)) (let k : at + 1 + (l.len - 1) ≡ at + l.len = omega (arith, some) in k)
      ∙ ap (tokens_in lexer (lexer.mode_behind mode l.piece) (at + l.len) 0) (sym (rests ∙ ap (drop l.len) e ∙ passed l.len some)))
    where
      passed : (n : ℕ) → 0 < n → drop n (b ∷ others) ≡ drop (n - 1) others
      passed zero some = absurd (omega arith)
      passed (suc n) some = ap (λ (k : ℕ). drop k others) (let same : n ≡ suc n - 1 = omega arith in same)

  -- the tokens of bytes from a position on are in order, and end at or before the end of the bytes
  pub in_order_in : ((mode : M) → LexesWithin (lexer.lexeme_in mode)) → (bytes : List ℕ) (mode : M) (skip at : ℕ) → skip ≤ length bytes
      → AreInOrder (at + skip) (tokens_in lexer mode at skip bytes) (at + length bytes)
  in_order_in within [] mode skip at h = omega (arith, h)
  in_order_in within (b ∷ bytes) mode (suc skip) at h =
      subst (λ (p : ℕ). AreInOrder p (tokens_in lexer mode (at + 1) skip bytes) (at + length (b ∷ bytes))) (let e : at + 1 + skip ≡ at + suc skip = omega arith in e)
      (subst (AreInOrder (at + 1 + skip) (tokens_in lexer mode (at + 1) skip bytes)) (let e : at + 1 + length bytes ≡ at + length (b ∷ bytes) = omega arith in e)
      (in_order_in within bytes mode skip (at + 1) (omega (arith, h))))
  in_order_in within (b ∷ bytes) mode zero at h =
      let w = (within mode).each b bytes in
      subst (λ (p : ℕ). AreInOrder p (tokens_in lexer mode at 0 (b ∷ bytes)) (at + length (b ∷ bytes))) (let e : at ≡ at + 0 = omega arith in e)
      (subst (AreInOrder at (tokens_in lexer mode at 0 (b ∷ bytes))) (let e : at + 1 + length bytes ≡ at + length (b ∷ bytes) = omega arith in e)
      (one_in_order at (lexer.lexeme_in mode b bytes).len (lexer.lexeme_in mode b bytes).piece _ (at + 1 + length bytes) w.0
      (in_order_in within bytes (lexer.mode_behind mode (lexer.lexeme_in mode b bytes).piece) ((lexer.lexeme_in mode b bytes).len - 1) (at + 1) (let k = w.1 in omega (arith, k)))))

  -- the pieces of a text don't depend on its position
  pub pieces_in : (bytes : List ℕ) (mode : M) (skip a b : ℕ) → pieces (tokens_in lexer mode a skip bytes) ≡ pieces (tokens_in lexer mode b skip bytes)
  pieces_in [] mode skip a b = refl
  pieces_in (c ∷ bytes) mode (suc skip) a b = pieces_in bytes mode skip (a + 1) (b + 1)
  pieces_in (c ∷ bytes) mode zero a b =
      go (lexer.lexeme_in mode c bytes).piece (lexer.lexeme_in mode c bytes).len _ _
      (pieces_in bytes (lexer.mode_behind mode (lexer.lexeme_in mode c bytes).piece) ((lexer.lexeme_in mode c bytes).len - 1) (a + 1) (b + 1))
    where
      go : (o : Option P) (len : ℕ) (ts us : List (Token P)) → pieces ts ≡ pieces us → pieces (token_then a len o ts) ≡ pieces (token_then b len o us)
      go None len ts us ih = ih
      go (Some p) len ts us ih = ap (λ ps. p ∷ ps) ih

-- the laws above for a lexer with one mode
module _ {P : Type 0} (lexeme_at : ℕ → List ℕ → Lexeme (Option P)) where
  -- the tokens after skipped bytes are those of the remaining bytes
  pub tokens-drop : (k at : ℕ) (bytes : List ℕ) → tokens_from lexeme_at at k bytes ≡ tokens_from lexeme_at (at + k) 0 (drop k bytes)
  tokens-drop = tokens_in-drop (lexer_with_one_mode lexeme_at) tt

  -- the tokens of a text are its first lexeme's token, if it is a piece, and then those of the bytes after it
  pub tokens-first : (at : ℕ) (text others behind : List ℕ) (b : ℕ) (l : Lexeme (Option P)) → text ≡ b ∷ others → l ≡ lexeme_at b others → 0 < l.len
      → behind ≡ drop l.len text → tokens_from lexeme_at at 0 text ≡ token_then at l.len l.piece (tokens_from lexeme_at (at + l.len) 0 behind)
  tokens-first = tokens_in-first (lexer_with_one_mode lexeme_at) tt

  -- the tokens of bytes from a position on are in order, and end at or before the end of the bytes
  pub in_order : LexesWithin lexeme_at → (bytes : List ℕ) (skip at : ℕ) → skip ≤ length bytes → AreInOrder (at + skip) (tokens_from lexeme_at at skip bytes) (at + length bytes)
  in_order within bytes = in_order_in (lexer_with_one_mode lexeme_at) (λ mode. within) bytes tt

  -- the pieces of a text don't depend on its position
  pub pieces_at : (bytes : List ℕ) (skip a b : ℕ) → pieces (tokens_from lexeme_at a skip bytes) ≡ pieces (tokens_from lexeme_at b skip bytes)
  pieces_at bytes = pieces_in (lexer_with_one_mode lexeme_at) bytes tt
