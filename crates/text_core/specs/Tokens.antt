-- The pieces of a text with their positions.
use Rattle.std.specs.Prelude.{ℕ, zero, suc, ◌+◌, ◌-◌, Option, Some, None, List, [], ◌∷◌, length, ◌≤◌, ◌<◌, ⊤}

-- a piece, the position of its first byte, and the position after its last byte
pub record Token (P : Type 0) : Type 0 where
  pub piece : P
  pub at : ℕ
  pub upto : ℕ

-- the first piece of a text, or none for bytes between pieces, with the number of bytes
pub record Lexeme (P : Type 0) : Type 0 where
  pub piece : P
  pub len : ℕ

-- the pieces of tokens
abbrev pub pieces : {P : Type 0} → List (Token P) → List P
pieces [] = []
pieces (t ∷ ts) = t.piece ∷ pieces ts

-- the token of an optional piece at a position, before others; bytes between pieces make no token
abbrev pub token_then : {P : Type 0} → ℕ → ℕ → Option P → List (Token P) → List (Token P)
token_then at len None ts = ts
token_then at len (Some p) ts = record { piece = p; at = at; upto = at + len } ∷ ts

-- how texts are cut into lexemes: the first lexeme of bytes in a mode, and the mode after it
pub record Lexer (P M : Type 0) : Type 0 where
  pub lexeme_in : M → ℕ → List ℕ → Lexeme (Option P)
  pub mode_behind : M → Option P → M

-- the tokens of bytes from a position on, after skipping this many bytes: each lexeme begins where the one before it
-- ends
abbrev pub tokens_in : {P M : Type 0} → Lexer P M → M → ℕ → ℕ → List ℕ → List (Token P)
tokens_in lexer mode at skip [] = []
tokens_in lexer mode at (suc skip) (b ∷ bytes) = tokens_in lexer mode (at + 1) skip bytes
tokens_in lexer mode at zero (b ∷ bytes) =
    token_then at (lexer.lexeme_in mode b bytes).len (lexer.lexeme_in mode b bytes).piece
    (tokens_in lexer (lexer.mode_behind mode (lexer.lexeme_in mode b bytes).piece) (at + 1)
    ((lexer.lexeme_in mode b bytes).len - 1) bytes)

-- a lexer with one mode
abbrev pub lexer_with_one_mode : {P : Type 0} → (ℕ → List ℕ → Lexeme (Option P)) → Lexer P ⊤
lexer_with_one_mode lexeme_at = record { lexeme_in = λ mode. lexeme_at; mode_behind = λ mode piece. mode }

-- the tokens of bytes at a position, with one mode
abbrev pub tokens_from : {P : Type 0} → (ℕ → List ℕ → Lexeme (Option P)) → ℕ → ℕ → List ℕ → List (Token P)
tokens_from lexeme_at at skip bytes = tokens_in (lexer_with_one_mode lexeme_at) tt at skip bytes

-- a lexer for texts that consist of pieces, with nothing between them
abbrev pub each_piece : {P : Type 0} → (ℕ → List ℕ → Lexeme P) → ℕ → List ℕ → Lexeme (Option P)
each_piece lexeme_at b bytes = record { piece = Some (lexeme_at b bytes).piece; len = (lexeme_at b bytes).len }

-- the tokens of a text
abbrev pub tokens_of : {P : Type 0} → (ℕ → List ℕ → Lexeme (Option P)) → List ℕ → List (Token P)
tokens_of lexeme_at bytes = tokens_from lexeme_at 0 0 bytes

-- tokens follow each other, from one position up to another, and each has at least one byte
abbrev pub AreInOrder : {P : Type 0} → ℕ → List (Token P) → ℕ → Type 0
AreInOrder from [] upto = from ≤ upto
AreInOrder from (t ∷ ts) upto = (from ≤ t.at) × (t.at < t.upto) × AreInOrder t.upto ts upto

-- a lexeme has at least one byte, and no more than there are
pub record LexesWithin {P : Type 0} (lexeme_at : ℕ → List ℕ → Lexeme P) : Type 0 where
  pub each : (b : ℕ) (bytes : List ℕ) → (0 < (lexeme_at b bytes).len) × ((lexeme_at b bytes).len ≤ length (b ∷ bytes))
