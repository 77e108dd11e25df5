-- The contract of one step of reading: parts that end before the next token are ended, the faults here are taken into
-- account, and the token leads to the same state as in the written text.
use Rattle.std.specs.Prelude.{◌≡◌, ℕ, ◌-◌, Bool, true, false, ◌&&◌, ◌||◌, ◌==◌, nat_lt, nat_le, List, [], ◌∷◌, length}
use Rattle.std.specs.Prelude.{Option, Some, None, Result, ⊤}
use Rattle.model.specs.Programs.{Name}
use Rattle.text_core.specs.Names.{is_among}
use Rattle.text_core.specs.Tokens.{Token}
use Rattle.text_core.specs.Readers.{Fault}
use Rattle.text_core.specs.Faults.{next_at}
use Rattle.text_core.specs.Reading.{Refused, first_of, first_among}
use Rattle.its_text.specs.expr_text.Pieces as inner
use Rattle.its_model.specs.declared.program.Program as code
use Rattle.its_text.specs.Pieces.{Piece, In}
use Rattle.its_text.specs.Kinds.{Kind, kind_number}
use Rattle.its_text.specs.GrammarStates.{GrammarState, pieces_read}
use Rattle.its_text.specs.Steps.{step}
use Rattle.its_text.specs.Grammar.{programs}
use Rattle.its_text.specs.Answers.{at_index, verdict, whole}
use Rattle.its_text.specs.Lexing.{tokens_of}
use Rattle.its_text.specs.Written.{Section}
use Rattle.its_text.specs.Numbering.{start_of, rules_of}
use Rattle.its_text.specs.StateFaults.{Tokens, next_piece, piece_behind, last_byte, faults_of_state, last_faults}
use Rattle.its_text.specs.StateFaults.{left_wanted}
use Rattle.its_reader.specs.FaultTests.{IsDigital, wants_left, break_kind_in}
use Rattle.its_reader.specs.Tests as tests
use Rattle.its_reader.specs.Places.{RepresentsAt, PartEndedAt, LeadsTo}
use Rattle.its_reader.specs.Standing.{KnowsBetween}
use Rattle.its_reader.specs.Faults.{fault_of, maybe_fault, Says}
use Rattle.its_reader.specs.StateSteps.{GoTogether, IsModestPiece}
use Rattle.its_reader.specs.Reading.{IsReading}
use Rattle.its_reader.specs.declared.draft.Draft.{Draft}
use Rattle.its_reader.specs.declared.error.ReadError.{ReadError}
use Rattle.its_reader.specs.declared.parser_state.ParserState.{ParserState}
use Rattle.its_reader.specs.declared.reading.TokenStep.{TokenStep}
use Rattle.its_reader.specs.declared.reading.TokenStep.TheVariants as turns

-- the part that ends before the next piece is ended, and the fault at the last byte read is found
pub record EndsPart (state : ParserState) (old : Draft) (next : Option Piece) (now : ParserState) (found : ℕ
    → List (Fault Kind)) (new : Draft) : Type 0 where
  pub part_ended : (ts : Tokens) (f : GrammarState) → RepresentsAt ts next state old f → PartEndedAt ts next now new f
  pub found_is : (ts : Tokens) (at : ℕ) (f : GrammarState) → RepresentsAt ts next state old f
      → found at ≡ last_faults at f next

-- the new fault so far is the first of the earlier one and all that are shown here
pub record Judges (state : ParserState) (last : ℕ) (best : Option (Fault Kind)) (old : Draft)
    (next behind : Option Piece)
    (at : ℕ) (now : ParserState) (first : Option (Fault Kind)) (new : Draft) : Type 0 where
  pub part_ended : (ts : Tokens) (f : GrammarState) → RepresentsAt ts next state old f → PartEndedAt ts next now new f
  pub first_fault_ahead : (ts : Tokens) (n : ℕ) (done rest : Tokens) (f : GrammarState)
      → RepresentsAt ts next state old f
      → next_piece rest ≡ next → piece_behind rest ≡ behind
      → next_at n rest ≡ at → last_byte done ≡ last → IsDigital next
      → first ≡ first_among programs best (faults_of_state n done f rest)

-- the next name repeats no left argument
abbrev pub AllowsName : Option (List Name) → Option Name → Type 0
AllowsName (Some arguments) (Some name) = is_among name arguments ≡ false
AllowsName _ _ = ⊤

-- the next token leads to the same state as in the written text
pub record Advances (state : ParserState) (old : Draft) (t : Token Piece) (behind : Option Piece)
    (result : Option ParserState)
    (new : Draft) : Type 0 where
  pub together : (ts : Tokens) (f : GrammarState) → PartEndedAt ts (Some t.piece) state old f
      → t.at ≡ at_index ts (length (pieces_read f)) → GoTogether (step f t.piece) result
  pub each : (ts : Tokens) (f : GrammarState) → PartEndedAt ts (Some t.piece) state old f
      → t.at ≡ at_index ts (length (pieces_read f)) → AllowsName (left_wanted f) (tests.word t.piece)
      → IsModestPiece t.piece
      → LeadsTo ts behind (step f t.piece) result new

-- the least number that a fault shown after this token can have at the token's last byte
abbrev pub least_of : Piece → ℕ
least_of (In (inner.Digits ds)) = 9
least_of _ = 8

-- a fault so far is the answer after a token, as no later one can come before it
abbrev pub is_final : Fault Kind → Token Piece → Bool
is_final x t = nat_lt x.at (t.upto - 1) || ((x.at == t.upto - 1) && nat_le (kind_number x.kind) (least_of t.piece))

-- the result of a token: the next state, with the last byte and the fault so far; or the answer
pub data TokenResult : Type 0 where
  On : ParserState → ℕ → Option (Fault Kind) → TokenResult
  Over : Fault Kind → TokenResult

abbrev pub on_or_over : Bool → ParserState → Token Piece → Fault Kind → TokenResult
on_or_over true reached t x = Over x
on_or_over false reached t x = On reached (t.upto - 1) (Some x)

-- the result of a token that can follow
abbrev pub behind_token : Option (Fault Kind) → ParserState → Token Piece → TokenResult
behind_token None reached t = On reached (t.upto - 1) None
behind_token (Some x) reached t = on_or_over (is_final x t) reached t x

-- the result of a token, depending on whether it can follow
abbrev pub token_result : ParserState → Option (Fault Kind) → Token Piece → Option ParserState → TokenResult
token_result state best t None = Over (first_of programs best (record {
  kind = break_kind_in
      (wants_left state) t.piece;
  at = t.at;
}))
token_result state best t (Some reached) = behind_token best reached t

-- the result of a token is right: reading continues, or the answer is that of the text
abbrev pub TurnsTo : List ℕ → Tokens → TokenResult → Draft → Type 0
TurnsTo bytes rest (On state last best) d = IsReading bytes state last best d rest
TurnsTo bytes rest (Over x) d = verdict bytes ≡ Refused x

-- one token is read
pub record Turns (state : ParserState) (last : ℕ) (best : Option (Fault Kind)) (old : Draft) (t : Token Piece)
    (behind : Option Piece) (to : TokenResult) (new : Draft) : Type 0 where
  pub each : (bytes : List ℕ) (rest : Tokens) → next_piece rest ≡ behind
      → IsReading bytes state last best old (t ∷ rest) → TurnsTo bytes rest to new

-- the code's result of a token, as plain data
abbrev pub token_result_of : TokenStep → TokenResult
token_result_of (turns.On s) = On s.state s.last (maybe_fault s.best)
token_result_of (turns.Over x) = Over (fault_of x)

-- the result at the end of a text whose sections have no fault
pub record Finishes (d : Draft) (n : ℕ) (result : Result code.Program ReadError) : Type 0 where
  pub each : (bytes : List ℕ) (ss : List Section) → n ≡ length bytes → KnowsBetween (tokens_of bytes) ss d
      → verdict bytes ≡ whole (length bytes) (tokens_of bytes) ss (start_of ss) (rules_of ss)
      → Says (verdict bytes) result

-- the result at the end of a text
pub record Closes (state : ParserState) (last : ℕ) (best : Option (Fault Kind)) (d : Draft) (n : ℕ)
    (result : Result code.Program ReadError) : Type 0 where
  pub each : (bytes : List ℕ) → n ≡ length bytes → IsReading bytes state last best d [] → Says (verdict bytes) result
