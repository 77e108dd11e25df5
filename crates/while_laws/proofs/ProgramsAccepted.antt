-- An accepted text spells its program, and a text that spells one is accepted unless a token has a fault.
use Rattle.std.proofs.Common.{◌≡◌, ℕ, List, [], ◌∷◌, length, refl, sym, ap, subst, ◌∙◌}
use Rattle.text_core.specs.Faults.{FaultAt, shows, breaks}
use Rattle.text_core.specs.Readers.{Fault, onto, BreaksOff}
use Rattle.text_core.specs.Reading.{Answer, Parsed, Refused, Answers, answer}
use Rattle.text_core.specs.Tokens.{Token, pieces}
use Rattle.text_core.proofs.Walks.{pieces-onto}
use Rattle.text_grammar.specs.declared.symbol.Symbol.TheVariants as symbol
use Rattle.text_grammar.specs.Grammars.{Event, Read, Did, Derives}
use Rattle.text_grammar.specs.Silence.{read_in}
use Rattle.text_grammar.specs.Texts.{IsSilent, Writes, reader}
use Rattle.text_grammar.proofs.WorkedGrammars.{texts_read}
use Rattle.while_text.specs.declared.kind.Kind.{Kind}
use Rattle.while_text.specs.declared.phase.Standing.TheVariants.{Sound}
use Rattle.while_text.specs.declared.piece.Piece.{Piece}
use Rattle.while_text.specs.Grammar.{while_grammar}
use Rattle.while_text.specs.Lexing.{tokens}
use Rattle.while_text.specs.Reading.{State, Source, begun, state, source_in, while_text}
use Rattle.while_text.proofs.Lawful.{lawful}
use Rattle.while_text.proofs.PieceNames.{IsPieceOf, tokens_named}
use Rattle.while_text.proofs.ReadablePrograms.{derived_reads}
use Rattle.while_text.proofs.SilentReading.{silent_along}
use Rattle.while_laws.specs.ProgramLaws.{IsTextOf, HasNoFault, ProgramsAreRead}
use Rattle.while_laws.specs.SpelledPrograms.{SpellProgram}
use Rattle.while_laws.specs.Values.{read_all}
use Rattle.while_laws.proofs.Deriving.{reads}
use Rattle.while_laws.proofs.DerivingPrograms.{program_derives}
use Rattle.while_laws.proofs.ProgramsRead.{program_read}
use Rattle.while_laws.proofs.SpellingPrograms.{program_spells}

module _ (text : List ℕ) where
  -- The state after events is the state after the tokens that they read.
  state_read : (es before : List (Event Piece)) → state text (onto es before) ≡ read_all text (state text before)
      (read_in es)
  state_read [] before = refl
  state_read (Read p ∷ es) before = state_read es (Read p ∷ before)
  state_read (Did m ∷ es) before = state_read es (Did m ∷ before)

  -- The program that derived events denote is that of the tokens.
  value_is : (es : List (Event Piece)) (ps : List Piece) → Derives while_grammar (symbol.Made 0 ∷ []) es ps
      → source_in (state text (onto es [])).draft ≡ source_in (read_all text begun ps).draft
  value_is es ps d =
      ap (λ (s : State). source_in s.draft) (state_read es [])
      ∙ ap (λ (x : List Piece). source_in (read_all text begun x).draft) (derived_reads d)

  -- A text whose answer is a program was read without a fault.
  answered_sound : (source : Source) → answer (reader (while_text text)) (length text) (tokens text) ≡ Parsed source
      → (read_all text begun (pieces (tokens text))).standing ≡ Sound
  answered_sound source e =
      go ((texts_read (while_text text) (lawful text)).silence.stands (length text) (tokens text) source e)
    where
      go : (es : List (Event Piece)) × Derives while_grammar (symbol.Made 0 ∷ []) es (pieces (tokens text))
          × (source_in (state text (onto es [])).draft ≡ source) × IsSilent (while_text text) [] es (tokens text)
          → (read_all text begun (pieces (tokens text))).standing ≡ Sound
      go (es, derives, value, silent) =
          sym (ap (λ (s : State). s.standing) (state_read es [])
          ∙ ap (λ (x : List Piece). (read_all text begun x).standing) (derived_reads derives))
          ∙ (silent_along text (IsPieceOf text) (λ s. s.standing ≡ Sound) (λ p s f g n. refl) es [] (tokens text)
          (derived_reads derives) (tokens_named text) silent refl refl).1

  -- The answer to the text of a program is that program.
  text_answered : (source : Source) → IsTextOf text source
      → answer (reader (while_text text)) (length text) (tokens text) ≡ Parsed source
  text_answered source h =
      go (answer (reader (while_text text)) (length text) (tokens text))
      ((texts_read (while_text text) (lawful text)).answers.each (length text) (tokens text))
    where
      go : (a : Answer Source Kind) → Answers (reader (while_text text)) (length text) (tokens text) a
          → a ≡ Parsed source
      go (Parsed t) k = ap Parsed (sym (k.only source h.written))
      go (Refused x) k = absurd (h.faultless x k.is)

  -- Tokens that spell a program, and are read without a fault, are written for it.
  spelled_written : (source : Source) → SpellProgram text source (pieces (tokens text))
      → (read_all text begun (pieces (tokens text))).standing ≡ Sound
      → Writes (while_text text) source (pieces (tokens text))
  spelled_written source w h =
      let d = program_derives text source (pieces (tokens text)) w in (
        reads (pieces (tokens text)),
        d,
        value_is (reads (pieces (tokens text))) (pieces (tokens text)) d
            ∙ program_read text source (pieces (tokens text)) w refl h,
      )

  -- An accepted text spells its program.
  spelled_by : (source : Source) → IsTextOf text source → SpellProgram text source (pieces (tokens text))
  spelled_by source h = go h.written
    where
      go : Writes (while_text text) source (pieces (tokens text)) → SpellProgram text source (pieces (tokens text))
      go (es, derives, value) =
          let w = program_spells text (pieces (tokens text)) es derives in
          subst (λ (t : Source). SpellProgram text t (pieces (tokens text)))
          (sym (program_read text w.0 (pieces (tokens text)) w.1 refl
          (answered_sound source (text_answered source h)))
          ∙ sym (value_is es (pieces (tokens text)) derives) ∙ value) w.1

  -- A text whose tokens are derived has no syntax fault.
  unbroken : (es : List (Event Piece)) → Derives while_grammar (symbol.Made 0 ∷ []) es (pieces (tokens text))
      → (done rest : List (Token Piece)) → onto done rest ≡ tokens text
      → ¬ BreaksOff (reader (while_text text)) (pieces done) (pieces rest)
  unbroken es d done [] e b =
      b.1 (
        source_in (state text (onto es [])).draft,
        (
          es,
          subst (Derives while_grammar (symbol.Made 0 ∷ []) es)
              (ap pieces (sym e) ∙ pieces-onto done []) d,
          refl,
        ),
      )
  unbroken es d done (t ∷ rest) e b =
      b.1 (
        source_in (state text (onto es [])).draft,
        pieces rest,
        (
          es,
          subst (Derives while_grammar (symbol.Made 0 ∷ []) es) (ap pieces (sym e) ∙ pieces-onto done (t ∷ rest)) d,
          refl,
        ),
      )

  -- A text that spells a program is accepted as that program unless a token has a fault.
  accepted_as : (source : Source) → SpellProgram text source (pieces (tokens text)) → HasNoFault text
      → IsTextOf text source
  accepted_as source w none =
      go (answer (reader (while_text text)) (length text) (tokens text)) refl
      ((texts_read (while_text text) (lawful text)).answers.each (length text) (tokens text))
    where
      no_fault : (x : Fault Kind) → ¬ FaultAt (reader (while_text text)) (length text) (tokens text) x
      no_fault x (shows done rest f e r a) = none done rest f e r x a
      no_fault x (breaks done rest f e r b stop_kind) =
          unbroken (reads (pieces (tokens text))) (program_derives text source (pieces (tokens text)) w) done rest e b

      go : (a : Answer Source Kind) → answer (reader (while_text text)) (length text) (tokens text) ≡ a
          → Answers (reader (while_text text)) (length text) (tokens text) a → IsTextOf text source
      go (Parsed t) e k =
          subst (IsTextOf text) (sym (k.only source (spelled_written source w (answered_sound t e)))) k
      go (Refused x) e k = absurd (no_fault x k.is)

pub programs_read : ProgramsAreRead
programs_read = record {
  spelled = spelled_by;
  accepted = accepted_as;
  one = λ text a b w v none.
      (accepted_as text b v none).only a (accepted_as text a w none).written;
}
