-- Texts of pieces that are written one after the other: when the lexer cuts them into these pieces again.
use Rattle.std.specs.Prelude.{◌≡◌, ℕ, zero, suc, ◌-◌, List, [], ◌∷◌, ◌++◌, length, take, Some, ⊤}
use Rattle.text_grammar.specs.text_core.Tokens.{Lexer, pieces, tokens_in}

-- laws for a lexer, and the bytes that spell each piece
module _ {P M : Type 0} (lexer : Lexer P M) (spelled : P → List ℕ) where
  -- the bytes of pieces in order
  abbrev pub spelled_all : List P → List ℕ
  spelled_all [] = []
  spelled_all (p ∷ ps) = spelled p ++ spelled_all ps

  -- in a mode the bytes of this piece and those of `behind` begin with this piece, which has at least one byte
  pub record IsCut (mode : M) (p : P) (behind : List ℕ) : Type 0 where
    pub first : ℕ
    pub others : List ℕ
    pub bytes : spelled p ≡ first ∷ others
    pub cut : lexer.lexeme_in mode first (others ++ behind) ≡ record { piece = Some p; len = suc (length others) }

  -- each of the pieces is cut from their bytes, in the mode that the pieces before it leave
  abbrev pub AreCut : M → List P → Type 0
  AreCut mode [] = ⊤
  AreCut mode (p ∷ ps) = IsCut mode p (spelled_all ps) × AreCut (lexer.mode_behind mode (Some p)) ps

  -- bytes begin with a lexeme whose piece is spelled by them
  pub record SpellsBack (mode : M) (b : ℕ) (bytes : List ℕ) : Type 0 where
    pub piece : P
    pub begins : (lexer.lexeme_in mode b bytes).piece ≡ Some piece
    pub some : ℕ
    pub len : (lexer.lexeme_in mode b bytes).len ≡ suc some
    pub spells : spelled piece ≡ b ∷ take some bytes

  -- after skipping this many bytes, each lexeme of the bytes is spelled by them
  abbrev pub AllSpellBack : M → ℕ → List ℕ → Type 0
  AllSpellBack mode skip [] = ⊤
  AllSpellBack mode (suc skip) (b ∷ bytes) = AllSpellBack mode skip bytes
  AllSpellBack mode zero (b ∷ bytes) =
      SpellsBack mode b bytes
      × AllSpellBack (lexer.mode_behind mode (lexer.lexeme_in mode b bytes).piece)
      ((lexer.lexeme_in mode b bytes).len - 1) bytes

-- if each of some pieces is cut from their bytes, the pieces of these bytes are those; and if each lexeme of some bytes
-- is spelled by them, the bytes are those of their pieces
pub record TokensAreTexts {P M : Type 0} (lexer : Lexer P M) (spelled : P → List ℕ) : Type 0 where
  pub apart : (mode : M) (at : ℕ) (ps : List P) → AreCut lexer spelled mode ps
      → pieces (tokens_in lexer mode at 0 (spelled_all lexer spelled ps)) ≡ ps
  pub back : (mode : M) (at : ℕ) (bytes : List ℕ) → AllSpellBack lexer spelled mode 0 bytes
      → spelled_all lexer spelled (pieces (tokens_in lexer mode at 0 bytes)) ≡ bytes
