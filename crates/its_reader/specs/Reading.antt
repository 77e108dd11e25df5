-- The progress of the code's reader in a text: the remaining text decides the answer.
use Rattle.std.specs.Prelude.{◌≡◌, ℕ, List, [], ◌∷◌, length, Option, Some, ⊤}
use Rattle.text_core.specs.Tokens.{pieces, AreInOrder}
use Rattle.text_core.specs.Readers.{Fault, onto, reached}
use Rattle.text_core.specs.Reading.{Going, run, answer}
use Rattle.its_text.specs.Kinds.{Kind}
use Rattle.its_text.specs.Lexing.{tokens_of}
use Rattle.its_text.specs.GrammarStates.{GrammarState}
use Rattle.its_text.specs.Grammar.{programs}
use Rattle.its_text.specs.StateFaults.{Tokens, last_byte, next_piece}
use Rattle.its_reader.specs.FaultTests.{IsDigital}
use Rattle.its_reader.specs.Places.{RepresentsAt}
use Rattle.its_reader.specs.declared.draft.Draft.{Draft}
use Rattle.its_reader.specs.declared.parser_state.ParserState.{ParserState}

-- the position after the tokens that have been read
abbrev pub after : Tokens → ℕ
after [] = 0
after (t ∷ done) = t.upto

-- all literals of the tokens consist of digits
abbrev pub AreDigital : Tokens → Type 0
AreDigital [] = ⊤
AreDigital (t ∷ rest) = IsDigital (Some t.piece) × AreDigital rest

-- the code's state represents one that the text's tokens lead to, and the answer is decided by the remaining tokens
pub record IsReading (bytes : List ℕ) (state : ParserState) (last : ℕ) (best : Option (Fault Kind)) (d : Draft)
    (rest : Tokens) : Type 0 where
  pub done : Tokens
  pub grammar_state : GrammarState
  pub whole : onto done rest ≡ tokens_of bytes
  pub led : reached programs (pieces done) ≡ Some grammar_state
  pub last_is : last ≡ last_byte done
  pub ordered : AreInOrder (after done) rest (length bytes)
  pub digital : AreDigital rest
  pub pending : answer programs (length bytes) (tokens_of bytes) ≡ run programs (length bytes)
      (Going best done grammar_state) rest
  pub stands : RepresentsAt (tokens_of bytes) (next_piece rest) state d grammar_state
