-- Each word of a program's text is a name.
use Rattle.std.proofs.Common.{ℕ, zero, suc, ◌+◌, ◌-◌, List, [], ◌∷◌, Option, Some, None}
use Rattle.std.specs.Prelude.{⊤}
use Rattle.expr_text.specs.text_core.Names.{IsName, continues_name}
use Rattle.expr_text.specs.text_core.Tokens.{Token, pieces, token_then, tokens_in}
use Rattle.expr_text.specs.text_core.Readers.{onto}
use Rattle.expr_text.proofs.text_core.PrefixLaws.{all_prefix}
use Rattle.expr_text.specs.Pieces as inner
use Rattle.its_text.specs.Pieces.{Piece, In}
use Rattle.its_text.proofs.LexemeCases.{IsMark, HoldsOfPieces, of_lexeme}
use Rattle.its_text.specs.Lexing.{Mode, Outside, mode_behind, lexeme_in, lexer, tokens_of}

-- a word is a name
abbrev pub IsNamed : Piece → Type 0
IsNamed (In (inner.Word name)) = IsName name
IsNamed _ = ⊤

abbrev pub AreNamed : List Piece → Type 0
AreNamed [] = ⊤
AreNamed (p ∷ ps) = IsNamed p × AreNamed ps

-- The token, if there is one, is no word, or a valid name.
abbrev IsFound : Option Piece → Type 0
IsFound None = ⊤
IsFound (Some p) = IsNamed p

-- a mark is no word
mark_found : (o : Option Piece) → IsMark o → IsFound o
mark_found None h = tt
mark_found (Some (In (inner.Word name))) h = absurd h
mark_found (Some (In _)) h = tt
mark_found (Some _) h = tt

-- Each token is no word, or a valid name.
each_found : HoldsOfPieces IsFound
each_found = record {
  marks = mark_found;
  words = λ b bytes e. (e, all_prefix continues_name bytes);
  literals = λ b bytes e. tt;
}

-- If a token is no word or a valid name, and the words after it are valid names, all words are.
then_named : (at len : ℕ) (o : Option Piece) (ts : List (Token Piece)) → IsFound o → AreNamed (pieces ts) → AreNamed (pieces (token_then at len o ts))
then_named at len None ts n h = h
then_named at len (Some p) ts n h = (n, h)

tokens_named : (bytes : List ℕ) (mode : Mode) (skip at : ℕ) → AreNamed (pieces (tokens_in lexer mode at skip bytes))
tokens_named [] mode skip at = tt
tokens_named (b ∷ bytes) mode (suc skip) at = tokens_named bytes mode skip (at + 1)
tokens_named (b ∷ bytes) mode zero at =
    then_named at (lexeme_in mode b bytes).len (lexeme_in mode b bytes).piece _ (of_lexeme IsFound each_found mode b bytes)
    (tokens_named bytes (mode_behind mode (lexeme_in mode b bytes).piece) ((lexeme_in mode b bytes).len - 1) (at + 1))

-- each word of a text is a name
pub text_named : (bytes : List ℕ) → AreNamed (pieces (tokens_of bytes))
text_named bytes = tokens_named bytes Outside 0 0

-- the words among the pieces before others, the last one first, are names
pub before_named : (done rest : List Piece) → AreNamed (onto done rest) → AreNamed done × AreNamed rest
before_named [] rest h = (tt, h)
before_named (p ∷ done) rest h = let x = before_named done (p ∷ rest) h in ((x.1.0, x.0), x.1.1)
