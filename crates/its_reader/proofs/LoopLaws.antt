-- The tokens of a text are read one after the other.
use Rattle.std.specs.Prelude.{◌≡◌, ℕ, List, [], ◌∷◌, Option, Some, None, Err}
use Rattle.std.proofs.Common.{sym, ap, subst, ◌∙◌}
use Rattle.text_core.specs.Tokens.{Token}
use Rattle.text_core.specs.Readers.{Fault}
use Rattle.text_core.specs.Tokens as plain
use Rattle.its_text.specs.Pieces.{Piece}
use Rattle.its_text.specs.Kinds.{Kind}
use Rattle.its_text.specs.Lexing.{Outside, lexer, tokens_of}
use Rattle.its_text.specs.Answers.{verdict}
use Rattle.its_text.specs.StateFaults.{Tokens, next_piece}
use Rattle.its_reader.specs.Views.{mode_of, tokens_in, listed, piece_in_token}
use Rattle.its_reader.specs.Faults.{fault_of, maybe_fault, fault_in, Says}
use Rattle.its_reader.specs.Standing.{KnowsBetween}
use Rattle.its_reader.specs.Reading.{IsReading}
use Rattle.its_reader.specs.TokenSteps.{TurnsTo, Turns, token_result_of}
use Rattle.its_reader.specs.declared.draft.Draft.{Draft}
use Rattle.its_reader.specs.declared.error.ReadError.{ReadError}
use Rattle.its_reader.specs.declared.fault.Fault as found
use Rattle.its_reader.specs.declared.lexer.Lexer.{Lexer}
use Rattle.its_reader.specs.declared.piece.Token as code
use Rattle.its_reader.specs.declared.parser_state.ParserState.{ParserState}
use Rattle.its_reader.specs.declared.parser_state.ParserState.TheVariants as places
use Rattle.its_reader.specs.declared.parser_state.SectionState.TheVariants as sections
use Rattle.its_reader.specs.declared.reading.ReaderState.{ReaderState}
use Rattle.its_reader.specs.declared.reading.TokenStep.{TokenStep}
use Rattle.its_reader.specs.declared.reading.TokenStep.TheVariants as turns
use Rattle.its_reader.proofs.EndLaws.{refusal_said}
use Rattle.its_reader.proofs.ReadingLaws.{reading_begins}

-- the piece of the next token
pub piece_listed : (o : Option code.Token) (ts more : Tokens) → ts ≡ listed o more → next_piece ts ≡ piece_in_token o
piece_listed None ts more e = ap next_piece e
piece_listed (Some t) ts more e = ap next_piece e

-- reading begins with the first two tokens
pub loop_begins : (bytes : List ℕ) (d : Draft) (l k m : Lexer) (next behind : Option code.Token)
    → KnowsBetween (tokens_of bytes) [] d → l.text.now ≡ bytes → l.at ≡ 0 → mode_of l.mode ≡ Outside
    → tokens_in l ≡ listed next (tokens_in k)
    → tokens_in k ≡ listed behind (tokens_in m) → IsReading bytes (places.InSections sections.Between) 0 None d
    (listed next (listed behind (tokens_in m)))
loop_begins bytes d l k m next behind known text at mode first second =
    subst (IsReading bytes (places.InSections sections.Between) 0 None d) same (reading_begins bytes d known)
  where
    same : tokens_of bytes ≡ listed next (listed behind (tokens_in m))
    same =
        sym (ap (λ t. plain.tokens_in lexer (mode_of l.mode) l.at 0 t) text
        ∙ (ap (λ i. plain.tokens_in lexer (mode_of l.mode) i 0 bytes) at
        ∙ ap (λ o. plain.tokens_in lexer o 0 0 bytes) mode))
        ∙ (first ∙ ap (listed next) second)

-- after a token that doesn't decide, reading continues
pub turned_on : {bytes : List ℕ} {state : ParserState} {last : ℕ} {best : Option (Fault Kind)} {old new : Draft} {t :
    Token Piece} {behind : Option Piece} {rest : Tokens} (turn : TokenStep) (s : ReaderState) → turn ≡ turns.On s
    → Turns state last best old t behind (token_result_of turn) new → next_piece rest ≡ behind
    → IsReading bytes state last best old (t ∷ rest) → IsReading bytes s.state s.last (maybe_fault s.best) new rest
turned_on {bytes} {state} {last} {best} {old} {new} {t} {behind} {rest} turn s e h n r =
    subst (λ turn. TurnsTo bytes rest (token_result_of turn) new) e (h.each bytes rest n r)

-- if a token decides, the refusal that it ends with is the answer to the text
pub turned_over : {bytes : List ℕ} {state : ParserState} {last : ℕ} {best : Option (Fault Kind)} {old new : Draft} {t :
    Token Piece} {behind : Option Piece} {rest : Tokens} (turn : TokenStep) (x : found.Fault) (error : ReadError)
    → turn ≡ turns.Over x
    → fault_in error ≡ Some (fault_of x) → Turns state last best old t behind (token_result_of turn) new
    → next_piece rest ≡ behind → IsReading bytes state last best old (t ∷ rest) → Says (verdict bytes) (Err error)
turned_over {bytes} {state} {last} {best} {old} {new} {t} {behind} {rest} turn x error e f h n r =
    subst (λ a. Says a (Err error))
    (sym (subst (λ turn. TurnsTo bytes rest (token_result_of turn) new) e (h.each bytes rest n r)))
    (refusal_said (fault_of x) error f)

-- the invariant holds one token further on
pub next_read : {bytes : List ℕ} {state : ParserState} {last : ℕ} {best : Option (Fault Kind)} {d : Draft}
    (next : Option code.Token) (ts more : Tokens) → ts ≡ more → IsReading bytes state last best d (listed next ts)
    → IsReading bytes state last best d (listed next more)
next_read {bytes} {state} {last} {best} {d} next ts more e r =
    subst (λ ts. IsReading bytes state last best d (listed next ts)) e r
