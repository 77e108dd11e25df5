-- Reading a section piece by piece gives the answer to the whole text.
use Rattle.std.proofs.Common.{◌≡◌, ℕ, ◌+◌, Bool, true, false, ◌||◌, List, ◌∷◌, length, Option, Some, None, refl, ap}
use Rattle.std.proofs.Common.{sym, subst, ◌∙◌, arith}
use Rattle.std.specs.Prelude.{Result, Ok, Err, IfSome, is_some}
use Rattle.its_model.specs.model.Programs.{Program}
use Rattle.refined_programs.specs.Annotated as annotated
use Rattle.refined_programs.specs.declared.section.Section.{Section}
use Rattle.refined_programs.specs.Views.{annotated_of}
use Rattle.text_grammar.specs.text_core.Tokens.{AreInOrder, Token}
use Rattle.text_grammar.specs.text_core.Readers.{Fault}
use Rattle.text_grammar.specs.text_core.Faults.{IsFirst}
use Rattle.text_grammar.specs.text_core.Reading.{Answer, Parsed, Refused, IsTree, answer}
use Rattle.text_grammar.specs.text_core.Reading as reading
use Rattle.text_core.proofs.Lexing.{in_order_in}
use Rattle.text_core.proofs.FirstFaults.{answer_is}
use Rattle.text_grammar.specs.Grammars.{Event, Read}
use Rattle.text_grammar.specs.Folds.{refusals, state}
use Rattle.text_grammar.specs.Marks.{lexer_of}
use Rattle.text_grammar.specs.Texts.{first_shown, reader}
use Rattle.text_grammar.specs.Following.{Says}
use Rattle.text_grammar.specs.Results.{AgreesWith, refused_in}
use Rattle.text_grammar.specs.declared.token.Refusal.{Refusal}
use Rattle.text_grammar.specs.declared.token_stream.OneMode.TheVariants.{Plain}
use Rattle.text_grammar.proofs.ResultLaws.{says_then_agrees}
use Rattle.text_grammar.proofs.ReaderLaws.{reader_laws}
use Rattle.section_text.specs.declared.error.SectionTextError.{SectionTextError}
use Rattle.section_text.specs.declared.kind.SectionKind.{SectionKind}
use Rattle.section_text.specs.declared.piece.Piece.{Piece}
use Rattle.section_text.specs.Drafts.{Draft, read_in}
use Rattle.section_text.specs.Faults.{fault_of_piece, kind_at, shown_at}
use Rattle.section_text.specs.Lexing.{lexeme_at, tokens}
use Rattle.section_text.specs.Reading.{Progress, reported_fault, section_fold, sections_of}
use Rattle.section_text.specs.Refusals.{refusal_in}
use Rattle.section_text.specs.Results.{Answers}
use Rattle.section_text.specs.Within.{lexes_within}
use Rattle.section_text.proofs.Lawful.{lawful}

-- the tokens of a section are in order of their positions
pub tokens_in_order : (bytes : List ℕ) → AreInOrder 0 (tokens bytes) (length bytes)
tokens_in_order bytes =
    let o = in_order_in (lexer_of (lexeme_at (length bytes))) (λ mode. lexes_within (length bytes)) bytes Plain 0 0
    (omega arith) in
    subst (AreInOrder 0 (tokens bytes)) (let e : 0 + length bytes ≡ length bytes = omega arith in e)
    (subst (λ (n : ℕ). AreInOrder n (tokens bytes) (0 + length bytes)) (let e : 0 + 0 ≡ 0 = omega arith in e) o)

-- a result that agrees with the answer is right
pub agreeing_answers : (q : Program) (bytes : List ℕ) (result : Result Section SectionTextError)
    → AgreesWith annotated_of refusal_in (answer (reader (sections_of q bytes)) (length bytes) (tokens bytes)) result
    → Answers q bytes result
agreeing_answers q bytes result h =
    go (answer (reader (sections_of q bytes)) (length bytes) (tokens bytes))
    (answer_is (reader (sections_of q bytes)) (reader_laws (sections_of q bytes) (lawful q bytes)) (length bytes)
    (tokens bytes)) result h
  where
    first : (y : Fault SectionKind) → IsFirst (reader (sections_of q bytes)) (length bytes) (tokens bytes) y
        → (o : Option (Fault SectionKind)) → IfSome o (λ z. z ≡ y)
        → IfSome o (IsFirst (reader (sections_of q bytes)) (length bytes) (tokens bytes))
    first y i None s = tt
    first y i (Some z) s = subst (IsFirst (reader (sections_of q bytes)) (length bytes) (tokens bytes)) (sym s) i

    go : (a : Answer annotated.Section SectionKind)
        → reading.Answers (reader (sections_of q bytes)) (length bytes) (tokens bytes) a
        → (result : Result Section SectionTextError) → AgreesWith annotated_of refusal_in a result → Answers q bytes result
    go (Parsed t) i (Ok made) s =
        subst (IsTree (reader (sections_of q bytes)) (length bytes) (tokens bytes)) (sym s) i
    go (Parsed t) i (Err error) s =
        subst (λ (o : Option (Fault SectionKind)). IfSome o (IsFirst (reader (sections_of q bytes)) (length bytes) (tokens bytes)))
        (sym s) tt
    go (Refused y) i (Ok made) s = absurd s
    go (Refused y) i (Err error) s = first y i (refusal_in error) s

-- the progress with this state, and whether there was a fault
abbrev pub progress : Draft → Bool → Progress
progress d broken = record { draft = d; broken = broken }

-- the fault that is reported of a piece is its first one
shown_kind : (q : Program) (text : List ℕ) (o : Option SectionKind) (at : ℕ)
    → first_shown (sections_of q text) None (refusals o at) ≡ kind_at o at
shown_kind q text None at = refl
shown_kind q text (Some k) at = refl

-- after a fault no other one is shown
pub shown_behind : (q : Program) (text : List ℕ) (es : List (Event Piece)) (d : Draft) (broken : Bool) (piece : Piece)
    (at : ℕ) → progress d broken ≡ state (section_fold q text) es
    → shown_at broken (fault_of_piece q text piece d) at
    ≡ first_shown (sections_of q text) None (refusals (reported_fault q text (state (section_fold q text) es) piece) at)
shown_behind q text es d broken piece at e =
    go broken
    ∙ ap (λ (t : Progress). first_shown (sections_of q text) None (refusals (reported_fault q text t piece) at)) e
  where
    go : (v : Bool) → shown_at v (fault_of_piece q text piece d) at
        ≡ first_shown (sections_of q text) None (refusals (reported_fault q text (progress d v) piece) at)
    go true = refl
    go false = sym (shown_kind q text (fault_of_piece q text piece d) at)

-- the code's progress after one more piece
pub progressed : (q : Program) (text : List ℕ) (es : List (Event Piece)) (piece : Piece) (old new : Draft)
    (broken behind : Bool) → progress old broken ≡ state (section_fold q text) es
    → new ≡ read_in old.role q text piece old → behind ≡ (broken || is_some (fault_of_piece q text piece old))
    → progress new behind ≡ state (section_fold q text) (Read piece ∷ es)
progressed q text es piece old new broken behind k m b =
    ap (λ (d : Draft). progress d behind) m ∙ ap (progress (read_in old.role q text piece old)) b
    ∙ ap (λ (s : Progress). (section_fold q text).read piece s) k

-- reading the tokens of a text gives the answer
pub judged : (bytes text : List ℕ) (p q : Program) (ts : List (Token Piece))
    (result : Result Section (Refusal SectionKind)) → q ≡ p → text ≡ bytes → ts ≡ tokens bytes
    → Says (λ made t. annotated_of made ≡ t) (answer (reader (sections_of q text)) (length bytes) ts) result
    → AgreesWith annotated_of refused_in (answer (reader (sections_of p bytes)) (length bytes) (tokens bytes)) result
judged bytes text p q ts result e f g s =
    says_then_agrees annotated_of (answer (reader (sections_of p bytes)) (length bytes) (tokens bytes)) result
    (subst (λ (us : List (Token Piece)). Says (λ made t. annotated_of made ≡ t)
    (answer (reader (sections_of p bytes)) (length bytes) us) result) g
    (subst (λ (r : List ℕ). Says (λ made t. annotated_of made ≡ t)
    (answer (reader (sections_of p r)) (length bytes) ts) result) f
    (subst (λ (r : Program). Says (λ made t. annotated_of made ≡ t)
    (answer (reader (sections_of r text)) (length bytes) ts) result) e s)))
