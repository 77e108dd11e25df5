-- One more token of a text: the state after it, a text that breaks off, a point where reading can stop, and the end.
use Rattle.std.specs.Prelude.{◌≡◌, ℕ, suc, ◌+◌, ◌-◌, ◌≤◌, ◌<◌, ◌⊎◌, List, [], ◌∷◌, length, Option, Some, None, refl}
use Rattle.std.proofs.Common.{sym, ap, ◌∙◌, arith, inl, inr}
use Rattle.text_core.specs.Tokens.{Token, pieces, AreInOrder}
use Rattle.text_core.specs.Readers.{Fault, onto, next}
use Rattle.text_core.specs.Faults.{Among, stop_kind_at}
use Rattle.text_core.specs.Reading.{Refused, Stopped, Going, first_of, first_among, ended, further, run, answer}
use Rattle.its_text.specs.Kinds.{Kind, kind_number}
use Rattle.its_text.specs.Pieces.{Piece}
use Rattle.its_text.specs.Lexing.{tokens_of}
use Rattle.its_text.specs.GrammarStates as grammar_states
use Rattle.its_text.specs.GrammarStates.{GrammarState, pieces_read}
use Rattle.its_text.specs.Steps.{step, finish}
use Rattle.its_text.specs.Grammar.{programs}
use Rattle.its_text.specs.Answers.{at_index, verdict, verdict_of_answer}
use Rattle.its_text.specs.StateFaults.{Tokens, next_piece, faults_of_state, last_faults, break_kind}
use Rattle.its_text.proofs.Ends.{state_known}
use Rattle.its_text.proofs.LexingLaws.{tokens_in_order}
use Rattle.its_reader.specs.Standing.{KnowsBetween}
use Rattle.its_reader.specs.Places.{RepresentsAt}
use Rattle.its_reader.specs.Reading.{IsReading}
use Rattle.its_reader.specs.declared.draft.Draft.{Draft}
use Rattle.its_reader.specs.declared.parser_state.ParserState.{ParserState}
use Rattle.its_reader.specs.declared.parser_state.ParserState.TheVariants as places
use Rattle.its_reader.specs.declared.parser_state.SectionState.TheVariants as sections
use Rattle.its_reader.proofs.DigitLaws.{tokens_digital}
use Rattle.its_reader.proofs.Stopping.{answer_before, answer_here, stopped_is, ordered}

-- reading begins between sections
pub reading_begins : (bytes : List ℕ) (d : Draft) → KnowsBetween (tokens_of bytes) [] d
    → IsReading bytes (places.InSections sections.Between) 0 None d (tokens_of bytes)
reading_begins bytes d k = record {
  done = [];
  grammar_state = grammar_states.Between [];
  whole = refl;
  led = refl;
  last_is = refl;
  ordered = tokens_in_order bytes;
  digital = tokens_digital bytes;
  pending = refl;
  stands = ([], (refl, k));
}

-- the position of the token that follows this many others
at_onto : (done : Tokens) (t : Token Piece) (rest : Tokens) → at_index (onto done (t ∷ rest)) (length done) ≡ t.at
at_onto done t rest = ap (at_index (onto done (t ∷ rest))) (let e : length done ≡ length done + 0 = omega arith in e)
    ∙ go done 0 (t ∷ rest) t refl
  where
    go : (done : Tokens) (i : ℕ) (rest : Tokens) (t : Token Piece) → at_index rest i ≡ t.at
        → at_index (onto done rest) (length done + i) ≡ t.at
    go [] i rest t h = ap (at_index rest) (let e : 0 + i ≡ i = omega arith in e) ∙ h
    go (u ∷ done) i rest t h = ap (at_index (onto done (u ∷ rest)))
        (let e : length (u ∷ done) + i ≡ length done + suc i = omega arith in e) ∙ go done (suc i) (u ∷ rest) t h

length-pieces : (done : Tokens) → length (pieces done) ≡ length done
length-pieces [] = refl
length-pieces (t ∷ done) = ap suc (length-pieces done)

module _ (bytes : List ℕ) (state : ParserState) (last : ℕ) (best : Option (Fault Kind)) (d : Draft) (t : Token Piece)
    (rest : Tokens) (r : IsReading bytes state last best d (t ∷ rest)) where
  -- the next token's position, by its index
  pub position_is : t.at ≡ at_index (tokens_of bytes) (length (pieces_read r.grammar_state))
  position_is =
      sym (at_onto r.done t rest) ∙ (ap (λ ts. at_index ts (length r.done)) r.whole
      ∙ ap (at_index (tokens_of bytes))
      (sym (ap length (state_known (pieces r.done) r.grammar_state r.led).0 ∙ length-pieces r.done)))

  -- after a token that leads on, the invariant holds one token further
  pub reading_goes_on : (now : Option (Fault Kind)) (g : GrammarState) (reached_state : ParserState) (new : Draft)
      → now ≡ first_among programs best (faults_of_state (length bytes) r.done r.grammar_state (t ∷ rest))
      → step r.grammar_state t.piece ≡ Some g
      → RepresentsAt (tokens_of bytes) (next_piece rest) reached_state new g
      → IsReading bytes reached_state (t.upto - 1) now new rest
  reading_goes_on now g reached_state new b e k = record {
    done = t ∷ r.done;
    grammar_state = g;
    whole = r.whole;
    led = ap (λ (o : Option GrammarState). next step o t.piece) r.led ∙ e;
    last_is = refl;
    ordered = r.ordered.2;
    digital = r.digital.1;
    pending =
        r.pending
        ∙ (ap (λ o. run programs (length bytes)
        (further programs (first_among programs best
        (faults_of_state (length bytes) r.done r.grammar_state (t ∷ rest))) r.done t o
        (stop_kind_at programs (length bytes) r.grammar_state (t ∷ rest))) rest) e
        ∙ ap (λ now. run programs (length bytes) (Going now (t ∷ r.done) g) rest) (sym b));
    stands = k;
  }

  -- if the text breaks off, it is refused with the first fault
  pub reading_breaks : (now : Option (Fault Kind)) → now
      ≡ first_among programs best (faults_of_state (length bytes) r.done r.grammar_state (t ∷ rest))
      → step r.grammar_state t.piece ≡ None
      → verdict bytes ≡ Refused
      (first_of programs now (record { kind = break_kind r.grammar_state (t ∷ rest); at = t.at }))
  reading_breaks now b e =
      ap (verdict_of_answer (length bytes) (tokens_of bytes))
      (r.pending
      ∙ (ap (λ o. run programs (length bytes)
      (further programs (first_among programs best
      (faults_of_state (length bytes) r.done r.grammar_state (t ∷ rest))) r.done t o
      (stop_kind_at programs (length bytes) r.grammar_state (t ∷ rest))) rest) e
      ∙ (ap (λ now. run programs (length bytes)
      (Stopped (first_of programs now (stop_kind_at programs (length bytes) r.grammar_state (t ∷ rest)))) rest)
      (sym b)
      ∙ stopped_is (length bytes)
      (first_of programs now (stop_kind_at programs (length bytes) r.grammar_state (t ∷ rest))) rest)))

  -- reading can stop after a token at a fault before its last byte, or at that byte if nothing shown there has a lesser
  -- number
  pub reading_stops : (x : Fault Kind) (g : GrammarState)
      → Some x ≡ first_among programs best (faults_of_state (length bytes) r.done r.grammar_state (t ∷ rest))
      → step r.grammar_state t.piece ≡ Some g
      → (x.at < t.upto - 1) ⊎ ((x.at ≤ t.upto - 1)
      × ((y : Fault Kind) → Among y (last_faults (t.upto - 1) g (next_piece rest))
      → kind_number x.kind ≤ kind_number y.kind)) → verdict bytes ≡ Refused x
  reading_stops x g b e h =
      ap (verdict_of_answer (length bytes) (tokens_of bytes))
      (r.pending
      ∙ (ap (λ o. run programs (length bytes)
      (further programs (first_among programs best
      (faults_of_state (length bytes) r.done r.grammar_state (t ∷ rest))) r.done t o
      (stop_kind_at programs (length bytes) r.grammar_state (t ∷ rest))) rest) e
      ∙ (ap (λ now. run programs (length bytes) (Going now (t ∷ r.done) g) rest) (sym b) ∙ go h)))
    where
      behind : AreInOrder (t.upto - 1 + 1) rest (length bytes)
      behind = let q = r.ordered.1 in ordered rest t.upto (t.upto - 1 + 1) (length bytes) (omega (arith, q)) r.ordered.2

      go : (x.at < t.upto - 1) ⊎
          ((x.at ≤ t.upto - 1) × ((y : Fault Kind) → Among y (last_faults (t.upto - 1) g (next_piece rest))
          → kind_number x.kind ≤ kind_number y.kind)) → run programs (length bytes) (Going (Some x) (t ∷ r.done) g) rest
          ≡ Refused x
      go (inl a) = answer_before rest (length bytes) (t ∷ r.done) g x a behind
      go (inr a) = answer_here rest (length bytes) (t ∷ r.done) g x a.0 behind a.1

-- the answer at the end of a text
pub reading_ends : (bytes : List ℕ) (state : ParserState) (last : ℕ) (best now : Option (Fault Kind)) (d : Draft)
    → (r : IsReading bytes state last best d []) → now ≡ first_among programs best
    (faults_of_state (length bytes) r.done r.grammar_state [])
    → answer programs (length bytes) (tokens_of bytes) ≡ ended programs now (finish r.grammar_state)
    (record { kind = break_kind r.grammar_state []; at = length bytes })
reading_ends bytes state last best now d r b = r.pending
    ∙ ap (λ now. ended programs now (finish r.grammar_state) (stop_kind_at programs (length bytes) r.grammar_state []))
    (sym b)
