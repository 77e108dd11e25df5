-- A while program that is read is within the limits.
use Rattle.std.proofs.Common.{◌≡◌, ◌⊎◌, inl, inr, ℕ, false, List, [], ◌∷◌}
use Rattle.std.proofs.Common.{length, refl, ap, sym, subst, arith}
use Rattle.std.specs.Prelude.{map, Result, Ok, Err, IfOk}
use Rattle.text_grammar.specs.text_core.Readers.{onto}
use Rattle.text_grammar.specs.text_core.Reading.{Answer, Parsed, Refused, answer}
use Rattle.text_grammar.specs.text_core.Tokens.{pieces}
use Rattle.text_grammar.specs.declared.symbol.Symbol.{Symbol}
use Rattle.text_grammar.specs.declared.symbol.Symbol.TheVariants as symbol
use Rattle.text_grammar.specs.Grammars.{Event, Derives, nothing, piece, mark, made}
use Rattle.text_grammar.specs.Results.{AgreesWith}
use Rattle.text_grammar.proofs.WorkedGrammars.{texts_read}
use Rattle.text_grammar.specs.Silence.{read_in}
use Rattle.text_grammar.specs.Texts.{IsSilent, reader}
use Rattle.while_text.specs.model.Programs.{Name}
use Rattle.while_text.specs.while_model.Statements.{IsNonempty}
use Rattle.while_text.specs.its_model.Views.{name_of}
use Rattle.while_text.specs.while_tree.declared.stmt.Whole.{Whole}
use Rattle.while_text.specs.while_tree.Views.{statements_of, Statement, Plain, Loop, Branch, joined}
use Rattle.while_text.specs.while_tree.Readable.{IsReadable}
use Rattle.while_text.specs.declared.error.WhileError.{WhileError}
use Rattle.while_text.specs.declared.kind.Kind.{Kind}
use Rattle.while_text.specs.declared.piece.Piece.{Piece}
use Rattle.while_text.specs.Drafts.{Draft}
use Rattle.while_text.specs.Faults.{is_inputs}
use Rattle.while_text.specs.Grammar.{while_grammar}
use Rattle.while_text.specs.Lexing.{tokens}
use Rattle.while_text.specs.Views.{source_of, refusal_in}
use Rattle.while_text.specs.Reading.{State, Source, begun, state, source_in, while_text}
use Rattle.while_text.proofs.Lawful.{lawful}
use Rattle.while_text.proofs.PieceNames.{IsPieceOf, tokens_named}
use Rattle.while_text.proofs.ReadableDrafts.{Fitting}
use Rattle.while_text.proofs.SilentReading.{silent_along}
use Rattle.while_text.proofs.InnerTokens.{IsSome}
use Rattle.while_text.proofs.Structure.{has_statement}
use Rattle.while_text.proofs.KeptPrograms.{begun_good, kept_good, IsListed, Good}

-- Statements from a list that isn't empty aren't empty.
nonempty : (ss : List Statement) → IsSome ss → IsNonempty (joined ss)
nonempty [] h = h
nonempty (Plain action ∷ ss) h = tt
nonempty (Loop test block ∷ ss) h = tt
nonempty (Branch test block other ∷ ss) h = tt

-- A state within the limits with a statement gives a program within the limits.
pub good_readable : (s : State) → Good s → IsSome s.draft.body → IsReadable s.draft.names (joined s.draft.body)
good_readable s g some = go g.made
  where
    go : IsListed g.names s ⊎ (is_inputs s.course.phase ≡ false) × Fitting g.names (length g.names) s.course s.draft
        → IsReadable s.draft.names (joined s.draft.body)
    go (inl l) = absurd (subst IsSome (ap (λ (d : Draft). d.body) l.draft) some)
    go (inr (i, f)) =
        let k = f.count in
        let m = f.few in
        subst (λ (ns : List Name). IsReadable ns (joined s.draft.body)) (sym f.names_are) (record {
          nonempty = nonempty s.draft.body some;
          names = g.named.valid;
          distinct = g.named.distinct;
          few_inputs = g.named.few;
          few_rules = omega (arith, k, m);
          fits = f.body;
        })

-- The tokens that derived events read are those that are derived.
pub derived_reads : {ss : List Symbol} {es : List (Event Piece)} {ps : List Piece} → Derives while_grammar ss es ps
    → read_in es ≡ ps
derived_reads nothing = refl
derived_reads (piece p d) = ap (λ (ps : List Piece). p ∷ ps) (derived_reads d)
derived_reads (mark m d) = derived_reads d
derived_reads (made n body a d) = derived_reads d

-- A program that is an answer is within the limits.
answered_readable : (bytes : List ℕ) (source : Source)
    → answer (reader (while_text bytes)) (length bytes) (tokens bytes) ≡ Parsed source
    → IsReadable source.names source.program
answered_readable bytes source e = go ((texts_read (while_text bytes) (lawful bytes)).silence.stands (length bytes) (tokens bytes) source e)
  where
    go : (es : List (Event Piece)) × Derives while_grammar (symbol.Made 0 ∷ []) es (pieces (tokens bytes))
        × (source_in (state bytes (onto es [])).draft ≡ source) × IsSilent (while_text bytes) [] es (tokens bytes)
        → IsReadable source.names source.program
    go (es, derives, value, silent) =
        let along = silent_along bytes (IsPieceOf bytes) Good (kept_good bytes) es [] (tokens bytes) (derived_reads derives)
        (tokens_named bytes) silent refl begun_good in
        let some = subst (λ (s : State). IsSome s.draft.body) (sym along.0)
        (has_statement bytes es (pieces (tokens bytes)) derives begun refl refl) in
        subst (λ (t : Source). IsReadable t.names t.program) value
        (good_readable (state bytes (onto es [])) along.1 some)

-- A result that agrees with the answer is a program within the limits, or no program.
pub agreeing_is_readable : (bytes : List ℕ) (result : Result Whole WhileError)
    → AgreesWith source_of refusal_in (answer (reader (while_text bytes)) (length bytes) (tokens bytes)) result
    → IfOk result (λ w. IsReadable (map name_of w.names.items) (statements_of w.body.items))
agreeing_is_readable bytes result h = go (answer (reader (while_text bytes)) (length bytes) (tokens bytes)) refl result h
  where
    go : (a : Answer Source Kind) → answer (reader (while_text bytes)) (length bytes) (tokens bytes) ≡ a
        → (result : Result Whole WhileError) → AgreesWith source_of refusal_in a result
        → IfOk result (λ w. IsReadable (map name_of w.names.items) (statements_of w.body.items))
    go (Parsed t) e (Ok w) s =
        subst (λ (u : Source). IsReadable u.names u.program) (sym s) (answered_readable bytes t e)
    go (Parsed t) e (Err error) s = tt
    go (Refused y) e (Ok w) s = absurd s
    go (Refused y) e (Err error) s = tt
