-- The code finds the faults that the grammar's state shows, so it finds the first of all of them.
use Rattle.std.specs.Prelude.{◌≡◌, ℕ, List, ◌++◌, Option}
use Rattle.std.proofs.Common.{sym, ap, ◌∙◌}
use Rattle.text_core.specs.Readers.{Fault}
use Rattle.text_core.specs.Faults.{next_at}
use Rattle.text_core.specs.Reading.{first_among}
use Rattle.its_text.specs.Pieces.{Piece}
use Rattle.its_text.specs.Kinds.{Kind}
use Rattle.its_text.specs.GrammarStates.{GrammarState}
use Rattle.its_text.specs.Grammar.{programs}
use Rattle.its_text.specs.StateFaults.{Tokens, next_piece, piece_behind, last_byte, faults_of_state, last_faults}
use Rattle.its_text.specs.StateFaults.{next_faults}
use Rattle.its_reader.specs.Places.{PartEndedAt}
use Rattle.its_reader.specs.FaultTests.{IsDigital, state_faults}
use Rattle.its_reader.specs.TokenSteps.{EndsPart, Judges}
use Rattle.its_reader.specs.declared.draft.Draft.{Draft}
use Rattle.its_reader.specs.declared.parser_state.ParserState.{ParserState}
use Rattle.its_reader.specs.declared.parser_state.ParserState.TheVariants as places
use Rattle.its_reader.proofs.FaultTestLaws.{section_shows, one_more}
use Rattle.its_reader.proofs.LeftNotes.{left_next}
use Rattle.its_reader.proofs.CostNotes.{cost_next}
use Rattle.its_reader.proofs.RightNotes.{right_next}
use Rattle.its_reader.proofs.TailNotes.{tail_next}

-- the faults of the next token that the grammar's state shows are those that the code finds
pub state_next : (ts : Tokens) (at : ℕ) (next behind : Option Piece) (d : Draft) (f : GrammarState)
    (state : ParserState) → PartEndedAt ts next state d f → IsDigital next
    → next_faults at f next behind ≡ state_faults state d at next behind
state_next ts at next behind d f (places.InSections state) k digital = section_shows ts at next behind state d f k
state_next ts at next behind d f (places.InLeft state) k digital = left_next ts at next behind d f state k
state_next ts at next behind d f (places.InCost state) k digital = cost_next ts at next behind d f state k digital
state_next ts at next behind d f (places.InRight state) k digital = right_next ts at next behind d f state k digital
state_next ts at next behind d f (places.InTail state) k digital = tail_next ts at next behind d digital state f k

-- the first of the faults shown, in terms of the tokens before and after
shown_is : (best : Option (Fault Kind)) (n last at : ℕ) (next behind : Option Piece) (done rest : Tokens)
    (f : GrammarState) → next_piece rest ≡ next → piece_behind rest ≡ behind → next_at n rest ≡ at
    → last_byte done ≡ last
    → first_among programs best (last_faults last f next ++ next_faults at f next behind)
    ≡ first_among programs best (faults_of_state n done f rest)
shown_is best n last at next behind done rest f a b c e =
    ap (λ l. first_among programs best (last_faults l f next ++ next_faults at f next behind)) (sym e)
    ∙ (ap (λ o. first_among programs best (last_faults (last_byte done) f o ++ next_faults at f o behind)) (sym a)
    ∙ (ap (λ o. first_among programs best
    (last_faults (last_byte done) f (next_piece rest) ++ next_faults at f (next_piece rest) o)) (sym b)
    ∙ ap (λ i. first_among programs best
    (last_faults (last_byte done) f (next_piece rest) ++ next_faults i f (next_piece rest) (piece_behind rest)))
    (sym c)))

-- the fault so far after this step is the first of all that are shown
pub judges : (state now : ParserState) (last at : ℕ) (best one two : Option (Fault Kind)) (old new : Draft)
    (next behind : Option Piece) (found : ℕ → List (Fault Kind)) → EndsPart state old next now found new
    → one ≡ first_among programs best (found last) → two ≡ first_among programs one
    (state_faults now new at next behind) → Judges state last best old next behind at now two new
judges state now last at best one two old new next behind found s a b = record {
  part_ended = s.part_ended;
  first_fault_ahead = λ ts n done rest f k next_is behind_is at_is last_is digital.
      one_more best one two (last_faults last f next) (next_faults at f next behind)
      (a ∙ ap (first_among programs best) (s.found_is ts last f k))
      (b ∙ ap (first_among programs one) (sym (state_next ts at next behind new f now (s.part_ended ts f k) digital)))
      ∙ shown_is best n last at next behind done rest f next_is behind_is at_is last_is;
}
