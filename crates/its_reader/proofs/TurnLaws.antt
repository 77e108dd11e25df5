-- One step of reading, if the judged faults and the state after the next token satisfy their contracts.
use Rattle.std.specs.Prelude.{◌≡◌, ℕ, ◌-◌, Bool, true, false, List, ◌∷◌, length, Option, Some, None, refl}
use Rattle.std.proofs.Common.{sym, ap, subst, ◌∙◌}
use Rattle.text_core.specs.Tokens.{Token}
use Rattle.text_core.specs.Readers.{Fault}
use Rattle.text_core.specs.Reading.{Refused, first_of, first_among}
use Rattle.its_text.specs.Pieces.{Piece}
use Rattle.its_text.specs.Kinds.{Kind}
use Rattle.its_text.specs.Lexing.{tokens_of}
use Rattle.its_text.specs.GrammarStates.{GrammarState}
use Rattle.its_text.specs.Steps.{step}
use Rattle.its_text.specs.Grammar.{programs}
use Rattle.its_text.specs.Answers.{verdict}
use Rattle.its_text.specs.StateFaults.{Tokens, next_piece, faults_of_state, left_wanted, break_kind}
use Rattle.its_reader.specs.Tests as tests
use Rattle.its_reader.specs.Places.{PartEndedAt, LeadsTo}
use Rattle.its_reader.specs.StateSteps.{GoTogether, IsModestPiece}
use Rattle.its_reader.specs.Reading.{IsReading}
use Rattle.its_reader.specs.TokenSteps.{Judges, Advances, AllowsName, least_of, is_final, on_or_over, behind_token}
use Rattle.its_reader.specs.TokenSteps.{TokenResult, token_result, TurnsTo, Turns}
use Rattle.its_reader.specs.declared.draft.Draft.{Draft}
use Rattle.its_reader.specs.declared.parser_state.ParserState.{ParserState}
use Rattle.its_reader.proofs.AdvanceLaws.{stop_kind_is}
use Rattle.its_reader.proofs.Finality.{IsFinalIn}
use Rattle.its_reader.proofs.FollowLaws.{allowed, modest, stops, final_is, unfinal_is}
use Rattle.its_reader.proofs.ReadingLaws.{position_is, reading_goes_on, reading_breaks}

module _ (bytes : List ℕ) (state now : ParserState) (last : ℕ) (best first : Option (Fault Kind))
    (old middle new : Draft) (t : Token Piece) (rest : Tokens) (r : IsReading bytes state last best old (t ∷ rest))
    (j : Judges state last best old (Some t.piece) (next_piece rest) t.at now first middle) where
  -- the part that ends here is ended, and the fault so far is the first one that is shown
  part_ended_here : PartEndedAt (tokens_of bytes) (Some t.piece) now middle r.grammar_state
  part_ended_here = j.part_ended (tokens_of bytes) r.grammar_state r.stands

  first_fault_here : first ≡ first_among programs best
      (faults_of_state (length bytes) r.done r.grammar_state (t ∷ rest))
  first_fault_here = j.first_fault_ahead (tokens_of bytes) (length bytes) r.done (t ∷ rest) r.grammar_state r.stands
      refl refl refl (sym r.last_is) r.digital.0

  -- if the token can follow and no fault is final, reading continues
  pub turn_goes_on : (reached : ParserState) → Advances now middle t (next_piece rest) (Some reached) new
      → AllowsName (left_wanted r.grammar_state) (tests.word t.piece) → IsModestPiece t.piece
      → IsReading bytes reached (t.upto - 1) first new rest
  turn_goes_on reached a allows modest = go (step r.grammar_state t.piece) refl
      (a.each (tokens_of bytes) r.grammar_state part_ended_here (position_is bytes state last best old t rest r) allows
      modest)
    where
      go : (o : Option GrammarState) → step r.grammar_state t.piece ≡ o
          → LeadsTo (tokens_of bytes) (next_piece rest) o (Some reached) new
          → IsReading bytes reached (t.upto - 1) first new rest
      go None e h = absurd h
      go (Some g) e h = reading_goes_on bytes state last best old t rest r first g reached new first_fault_here e h

  -- if the token can't follow, the text is refused with the first fault
  pub turn_breaks : Advances now middle t (next_piece rest) None new
      → verdict bytes ≡ Refused
      (first_of programs first (record { kind = break_kind r.grammar_state (t ∷ rest); at = t.at }))
  turn_breaks a = go (step r.grammar_state t.piece) refl
      (a.together (tokens_of bytes) r.grammar_state part_ended_here (position_is bytes state last best old t rest r))
    where
      go : (o : Option GrammarState) → step r.grammar_state t.piece ≡ o → GoTogether o None
          → verdict bytes ≡ Refused
          (first_of programs first (record { kind = break_kind r.grammar_state (t ∷ rest); at = t.at }))
      go None e h = reading_breaks bytes state last best old t rest r first first_fault_here e
      go (Some g) e h = absurd h

  -- after one token reading continues, or its answer is that of the text
  pub turn_to : (reached : Option ParserState) → Advances now middle t (next_piece rest) reached new
      → TurnsTo bytes rest (token_result now first t reached) new
  turn_to None a =
      turn_breaks a
      ∙ ap (λ k. Refused (first_of programs first (record { kind = k; at = t.at })))
      (sym (stop_kind_is (tokens_of bytes) now middle r.grammar_state t.piece part_ended_here))
  turn_to (Some reached) a = go (step r.grammar_state t.piece) refl
      (a.together (tokens_of bytes) r.grammar_state part_ended_here (position_is bytes state last best old t rest r))
    where
      on : (g : GrammarState) → step r.grammar_state t.piece ≡ Some g → (IsFinalIn (least_of t.piece) t first → ⊥)
          → IsReading bytes reached (t.upto - 1) first new rest
      on g e never = turn_goes_on reached a (allowed bytes state last best first old t rest r first_fault_here never)
          (modest bytes state last best first old t rest r first_fault_here g e never)

      final : (x : Fault Kind) (g : GrammarState) → first ≡ Some x → step r.grammar_state t.piece ≡ Some g → (v : Bool)
          → is_final x t ≡ v → TurnsTo bytes rest (on_or_over v reached t x) new
      final x g f e true v = stops bytes state last best first old t rest r first_fault_here x g f e (final_is x t v)
      final x g f e false v = subst (λ o. IsReading bytes reached (t.upto - 1) o new rest) f
          (on g e (λ h. unfinal_is x t v (subst (IsFinalIn (least_of t.piece) t) f h)))

      by : (g : GrammarState) → step r.grammar_state t.piece ≡ Some g → (o : Option (Fault Kind)) → first ≡ o
          → TurnsTo bytes rest (behind_token o reached t) new
      by g e None f = subst (λ o. IsReading bytes reached (t.upto - 1) o new rest) f
          (on g e (λ h. subst (IsFinalIn (least_of t.piece) t) f h))
      by g e (Some x) f = final x g f e (is_final x t) refl

      go : (o : Option GrammarState) → step r.grammar_state t.piece ≡ o → GoTogether o (Some reached)
          → TurnsTo bytes rest (behind_token first reached t) new
      go None e h = absurd h
      go (Some g) e h = by g e first refl

-- one step of reading is right for each text
pub turns : (state now : ParserState) (last : ℕ) (best first : Option (Fault Kind)) (old middle new : Draft)
    (t : Token Piece) (behind : Option Piece) (reached : Option ParserState)
    → Judges state last best old (Some t.piece) behind t.at now first middle
    → Advances now middle t behind reached new → Turns state last best old t behind (token_result now first t reached)
    new
turns state now last best first old middle new t behind reached j a = record {
  each = λ bytes rest e r.
      turn_to bytes state now last best first old middle new t rest r
      (subst (λ b. Judges state last best old (Some t.piece) b t.at now first middle) (sym e) j) reached
      (subst (λ b. Advances now middle t b reached new) (sym e) a);
}

-- a next state that is equal to a known one satisfies the known state's contract
pub turned_alike : {state : ParserState} {last : ℕ} {best : Option (Fault Kind)} {old new : Draft} {t : Token
    Piece} {behind : Option Piece} {a b : TokenResult} → a ≡ b → Turns state last best old t behind b new
    → Turns state last best old t behind a new
turned_alike {state} {last} {best} {old} {new} {t} {behind} {a} {b} e h =
    subst (λ to. Turns state last best old t behind to new) (sym e) h
