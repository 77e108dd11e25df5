-- The end of a text: it breaks off there, or is refused, or its sections are complete.
use Rattle.std.specs.Prelude.{◌≡◌, ℕ, true, false, List, [], length, Option, Some, None, Result, Err, refl}
use Rattle.std.proofs.Common.{sym, ap, subst, ◌∙◌, inl, inr}
use Rattle.model.specs.Programs.{Name, Program}
use Rattle.text_core.specs.Readers.{Fault}
use Rattle.text_core.specs.Reading.{Answer, Parsed, Refused, first_of, ended, answer}
use Rattle.its_text.specs.expr_text.GuardGrammarStates.{GuardGrammarState}
use Rattle.its_model.specs.declared.program.Program as code
use Rattle.its_text.specs.Pieces.{Piece}
use Rattle.its_text.specs.Kinds.{Kind, Syntax}
use Rattle.its_text.specs.Lexing.{tokens_of}
use Rattle.its_text.specs.Written.{Section}
use Rattle.its_text.specs.GrammarStates as grammar_states
use Rattle.its_text.specs.GrammarStates.{GrammarState, Ruling, Headed}
use Rattle.its_text.specs.Steps.{finish}
use Rattle.its_text.specs.Grammar.{programs}
use Rattle.its_text.specs.Answers.{verdict, verdict_of_answer}
use Rattle.its_text.specs.StateFaults.{Tokens}
use Rattle.its_reader.specs.Faults.{fault_in, Says}
use Rattle.its_reader.specs.Standing.{KnowsBetween}
use Rattle.its_reader.specs.Places.{InSections, InLeft, CostPartEnded, RightPartEnded, TailPartEnded, PartEndedAt}
use Rattle.its_reader.specs.Places.{IsSource}
use Rattle.its_reader.specs.Places.{IsGuard}
use Rattle.its_reader.specs.FaultTests.{is_between}
use Rattle.its_reader.specs.Reading.{IsReading}
use Rattle.its_reader.specs.TokenSteps.{Judges, Finishes, Closes}
use Rattle.its_reader.specs.declared.error.ReadError.{ReadError}
use Rattle.its_reader.specs.declared.error.ReadError.TheVariants as errors
use Rattle.its_reader.specs.declared.parser_state.GuardOpening.{GuardOpening}
use Rattle.its_reader.specs.declared.parser_state.GuardOpening.TheVariants as openings
use Rattle.its_reader.specs.declared.parser_state.SectionState.{SectionState}
use Rattle.its_reader.specs.declared.parser_state.SectionState.TheVariants as sections
use Rattle.its_reader.specs.declared.parser_state.SourceState.{SourceState}
use Rattle.its_reader.specs.declared.parser_state.SourceState.TheVariants as lefts
use Rattle.its_reader.specs.declared.parser_state.CostState.{CostState}
use Rattle.its_reader.specs.declared.parser_state.CostState.TheVariants as costs
use Rattle.its_reader.specs.declared.parser_state.TargetState.{TargetState}
use Rattle.its_reader.specs.declared.parser_state.TargetState.TheVariants as rights
use Rattle.its_reader.specs.declared.parser_state.TailState.{TailState}
use Rattle.its_reader.specs.declared.parser_state.TailState.TheVariants as tails
use Rattle.its_reader.specs.declared.parser_state.ParserState.{ParserState}
use Rattle.its_reader.specs.declared.parser_state.ParserState.TheVariants as places
use Rattle.its_reader.specs.declared.draft.Draft.{Draft}
use Rattle.its_reader.proofs.ReadingLaws.{reading_ends}

-- an error that is the first refusal is the right answer, and running out of memory is always permitted
pub refusal_said : (x : Fault Kind) (e : ReadError) → fault_in e ≡ Some x → Says (Refused x) (Err e)
refusal_said x errors.Memory h = tt
refusal_said x _ h = h

-- running out of memory contradicts no answer
pub memory_said : (a : Answer Program Kind) → Says a (Err errors.Memory)
memory_said (Parsed p) = refl
memory_said (Refused x) = tt

-- at the end of a text running out of memory contradicts no answer
pub closes_memory : (state : ParserState) (last : ℕ) (best : Option (Fault Kind)) (d : Draft) (n : ℕ)
    → Closes state last best d n (Err errors.Memory)
closes_memory state last best d n = record { each = λ bytes e r. memory_said (verdict bytes) }

-- a text can end between sections alone
module _ (ts : Tokens) (next : Option Piece) (d : Draft) (f : GrammarState) where
  section_open : (state : SectionState) → InSections ts state d f → is_between (places.InSections state) ≡ false
      → finish f ≡ None
  section_open sections.Between k b = cc
  section_open sections.Opened k b = rw k.1.0 refl
  section_open sections.GoalNamed k b = rw k.1.0 refl
  section_open sections.GoalRead k b = rw k.1.0 refl
  section_open sections.StartNamed k b = rw k.1.0 refl
  section_open sections.StartOpened k b = rw k.1.0 refl
  section_open sections.StartListed k b = rw k.1.0 refl
  section_open sections.StartRead k b = rw k.1.1.0 refl
  section_open sections.StartClosed k b = rw k.1.1.0 refl
  section_open sections.Listing k b = rw k.1.1.0 refl
  section_open sections.CommentNamed k b = rw k.1.0 refl

  source_open : (r : Ruling) (name : Name) → IsSource next r name f → finish f ≡ None
  source_open r name (inl e) = rw e refl
  source_open r name (inr (h, (e, more))) = rw e refl

  left_open : (state : SourceState) → InLeft ts next state d f → finish f ≡ None
  left_open lefts.AfterRule k = rw k.1.0 refl
  left_open lefts.SourceNamed k = source_open k.0 k.1.0 k.1.1.0
  left_open lefts.LeftOpened k = rw k.1.1.0 refl
  left_open lefts.LeftRead k = rw k.1.1.1.1.0 refl
  left_open lefts.LeftParted k = rw k.1.1.1.1.0 refl
  left_open lefts.SourceClosed k = rw k.1.1.0 refl

  cost_open : (state : CostState) → CostPartEnded ts next state d f → finish f ≡ None
  cost_open costs.Costing k = rw k.1.1.1.0 refl
  cost_open costs.Costed k = rw k.1.1.1.1.0 refl

  right_open : (state : TargetState) → RightPartEnded ts next state d f → finish f ≡ None
  right_open rights.Arrowed k = rw k.1.0 refl
  right_open rights.ComNamed k = rw k.1.0 refl
  right_open rights.ComOpened k = rw k.1.0 refl
  right_open (rights.TargetNamed w) k = rw k.1.0 refl
  right_open (rights.RightOpened w) k = rw k.1.0 refl
  right_open (rights.Arguing w) k = rw k.1.1.1.0 refl
  right_open (rights.Argued w) k = rw k.1.1.1.1.0 refl
  right_open rights.TargetClosed k = rw k.1.1.0 refl

  guard_open : (opening : GuardOpening) (h : Headed) (g : GuardGrammarState) → IsGuard next opening h g f
      → finish f ≡ None
  guard_open openings.Square h g e = rw e refl
  guard_open openings.Mark h g (inl e) = rw e refl
  guard_open openings.Mark h g (inr (name, (e, more))) = rw e refl

  tail_open : (state : TailState) → TailPartEnded ts next state d f → finish f ≡ None
  tail_open tails.Targeted k = rw k.1.0 refl
  tail_open tails.GuardMarked k = rw k.1.0 refl
  tail_open tails.SquareOpened k = rw k.1.0 refl
  tail_open (tails.Guarding opening) k = guard_open opening k.0 k.1.0 k.1.1.0

  still_open : (state : ParserState) → PartEndedAt ts next state d f → is_between state ≡ false → finish f ≡ None
  still_open (places.InSections state) k b = section_open state k b
  still_open (places.InLeft state) k b = left_open state k
  still_open (places.InCost state) k b = cost_open state k
  still_open (places.InRight state) k b = right_open state k
  still_open (places.InTail state) k b = tail_open state k

  -- a grammar's state between sections, and the sections it has read
  stands_between : (state : ParserState) → PartEndedAt ts next state d f → is_between state ≡ true
      → (ss : List Section) × ((f ≡ grammar_states.Between ss) × KnowsBetween ts ss d)
  stands_between (places.InSections sections.Between) k b = k
  stands_between (places.InSections _) k b = cc
  stands_between _ k b = cc

ended_open : (best : Option (Fault Kind)) (o : Option (List Section)) (stop_kind : Fault Kind) → o ≡ None
    → ended programs best o stop_kind ≡ Refused (first_of programs best stop_kind)
ended_open None None stop_kind e = refl
ended_open (Some x) None stop_kind e = refl
ended_open best (Some t) stop_kind e = cc

module _ (state now : ParserState) (last : ℕ) (best first : Option (Fault Kind)) (old new : Draft) (n : ℕ)
    (j : Judges state last best old None None n now first new) where
  at_end : (bytes : List ℕ) → n ≡ length bytes → (r : IsReading bytes state last best old [])
      → answer programs (length bytes) (tokens_of bytes) ≡ ended programs first (finish r.grammar_state)
      (record { kind = Syntax; at = length bytes })
  at_end bytes e r = reading_ends bytes state last best first old r
      (j.first_fault_ahead (tokens_of bytes) (length bytes) r.done [] r.grammar_state r.stands refl refl (sym e)
      (sym r.last_is) tt)

  -- the text breaks off at its end
  pub closes_open : (e : ReadError) → is_between now ≡ false
      → fault_in e ≡ Some (first_of programs first (record { kind = Syntax; at = n }))
      → Closes state last best old n (Err e)
  closes_open e b h = record {
    each = λ bytes l r.
        subst (λ a. Says a (Err e))
        (sym (ap (verdict_of_answer (length bytes) (tokens_of bytes))
        (at_end bytes l r ∙ ended_open first (finish r.grammar_state) (record { kind = Syntax; at = length bytes })
        (still_open (tokens_of bytes) None new r.grammar_state now
        (j.part_ended (tokens_of bytes) r.grammar_state r.stands) b))))
        (refusal_said (first_of programs first (record { kind = Syntax; at = length bytes })) e
        (h ∙ ap (λ i. Some (first_of programs first (record { kind = Syntax; at = i }))) l));
  }

  between_at : (bytes : List ℕ) → is_between now ≡ true → (r : IsReading bytes state last best old [])
      → (ss : List Section) × ((r.grammar_state ≡ grammar_states.Between ss) × KnowsBetween (tokens_of bytes) ss new)
  between_at bytes b r = stands_between (tokens_of bytes) None new r.grammar_state now
      (j.part_ended (tokens_of bytes) r.grammar_state r.stands) b

  -- if the sections have a fault, the text is refused with it
  pub closes_refused : (x : Fault Kind) (e : ReadError) → is_between now ≡ true → first ≡ Some x → fault_in e ≡ Some x
      → Closes state last best old n (Err e)
  closes_refused x e b f h = record {
    each = λ bytes l r. let k = between_at bytes b r in
        subst (λ a. Says a (Err e))
        (sym (ap (verdict_of_answer (length bytes) (tokens_of bytes))
        (at_end bytes l r ∙ (ap (λ o. ended programs o (finish r.grammar_state)
        (record { kind = Syntax; at = length bytes })) f
        ∙ ap (λ g. ended programs (Some x) (finish g) (record { kind = Syntax; at = length bytes })) k.1.0))))
        (refusal_said x e h);
  }

  -- if the sections have no fault, the text gives a program, or is refused for what only the whole text shows
  pub closes_whole : (result : Result code.Program ReadError) → is_between now ≡ true → first ≡ None
      → Finishes new n result → Closes state last best old n result
  closes_whole result b f h = record {
    each = λ bytes l r. let k = between_at bytes b r in
        h.each bytes k.0 l k.1.1
        (ap (verdict_of_answer (length bytes) (tokens_of bytes))
        (at_end bytes l r ∙ (ap (λ o. ended programs o (finish r.grammar_state)
        (record { kind = Syntax; at = length bytes })) f
        ∙ ap (λ g. ended programs None (finish g) (record { kind = Syntax; at = length bytes })) k.1.0)));
  }
