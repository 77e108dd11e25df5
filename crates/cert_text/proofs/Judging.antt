-- Reading a proof file piece by piece gives the answer to the whole text.
use Rattle.std.proofs.Common.{◌≡◌, ℕ, ◌+◌, Bool, true, false, cond, ◌||◌, List, ◌∷◌, length, Option, Some, None, refl, ap}
use Rattle.std.proofs.Common.{sym, subst, ◌∙◌, arith}
use Rattle.std.specs.Prelude.{Result, Ok, Err, IfSome, is_some}
use Rattle.its_model.specs.model.Programs.{Program}
use Rattle.cert_types.specs.AnswerViews.{file_of}
use Rattle.cert_types.specs.declared.file.ProofFile.{ProofFile}
use Rattle.cert_types.specs.cert_rules.Gaps as gaps
use Rattle.text_grammar.specs.text_core.Tokens.{AreInOrder, Token}
use Rattle.text_grammar.specs.text_core.Readers.{Fault}
use Rattle.text_grammar.specs.text_core.Faults.{IsFirst}
use Rattle.text_grammar.specs.text_core.Reading.{Answer, Parsed, Refused, IsTree, answer}
use Rattle.text_grammar.specs.text_core.Reading as reading
use Rattle.text_core.proofs.Lexing.{in_order_in}
use Rattle.text_core.proofs.FirstFaults.{answer_is}
use Rattle.text_grammar.specs.Grammars.{Event, Read, Did}
use Rattle.text_grammar.specs.Folds.{refusals, state}
use Rattle.text_grammar.specs.Marks.{fault_of}
use Rattle.text_grammar.specs.Texts.{first_shown, reader}
use Rattle.text_grammar.specs.Following.{Says}
use Rattle.text_grammar.specs.Results.{AgreesWith, refused_in}
use Rattle.text_grammar.specs.declared.token.Refusal.{Refusal}
use Rattle.text_grammar.proofs.ResultLaws.{says_then_agrees}
use Rattle.text_grammar.specs.declared.token.Fault as code_fault
use Rattle.text_grammar.proofs.ReaderLaws.{reader_laws}
use Rattle.cert_lexer.specs.Lexing.{lexer_of, symbol_names, tokens}
use Rattle.cert_lexer.specs.Within.{lexes_within}
use Rattle.cert_lexer.specs.declared.kind.ProofKind.{ProofKind}
use Rattle.cert_lexer.specs.declared.piece.Piece.{Piece}
use Rattle.cert_lexer.specs.declared.piece.Mode.TheVariants as mode
use Rattle.cert_text.specs.declared.error.ProofTextError.{ProofTextError}
use Rattle.cert_text.specs.NumberFaults.{fault_of_piece, position_of}
use Rattle.cert_text.specs.Reading.{Progress, reported_fault, moved, proof_fold, proofs_of}
use Rattle.cert_text.specs.Refused.{Answers, kind_at, refusal_of}
use Rattle.cert_text.specs.Remembered.{State, done}
use Rattle.cert_text.specs.StatedErrors.{refusal_in}
use Rattle.cert_text.proofs.Lawful.{lawful}

-- the tokens of a proof file are in order of their positions
pub tokens_in_order : (p : Program) (bytes : List ℕ) → AreInOrder 0 (tokens p bytes) (length bytes)
tokens_in_order p bytes =
    let o = in_order_in (lexer_of p) (lexes_within (symbol_names p) p.start_names) bytes mode.Beginning 0 0 (omega arith) in
    subst (AreInOrder 0 (tokens p bytes)) (let e : 0 + length bytes ≡ length bytes =
    omega arith in e) (subst (λ (n : ℕ). AreInOrder n (tokens p bytes) (0 + length bytes))
    (let e : 0 + 0 ≡ 0 = omega arith in e) o)

-- a result that agrees with the answer is right
pub agreeing_answers : (p : Program) (bytes : List ℕ) (result : Result ProofFile ProofTextError)
    → AgreesWith file_of refusal_in (answer (reader (proofs_of p)) (length bytes) (tokens p bytes)) result → Answers p bytes result
agreeing_answers p bytes result h =
    go (answer (reader (proofs_of p)) (length bytes) (tokens p bytes))
    (answer_is (reader (proofs_of p)) (reader_laws (proofs_of p) (lawful p)) (length bytes) (tokens p bytes)) result h
  where
    first : (y : Fault ProofKind) → IsFirst (reader (proofs_of p)) (length bytes) (tokens p bytes) y → (o : Option (Fault ProofKind))
        → IfSome o (λ z. z ≡ y) → IfSome o (IsFirst (reader (proofs_of p)) (length bytes) (tokens p bytes))
    first y i None s = tt
    first y i (Some z) s = subst (IsFirst (reader (proofs_of p)) (length bytes) (tokens p bytes)) (sym s) i

    go : (a : Answer gaps.ProofFile ProofKind) → reading.Answers (reader (proofs_of p)) (length bytes) (tokens p bytes) a
        → (result : Result ProofFile ProofTextError) → AgreesWith file_of refusal_in a result → Answers p bytes result
    go (Parsed t) i (Ok made) s = subst (IsTree (reader (proofs_of p)) (length bytes) (tokens p bytes)) (sym s) i
    go (Parsed t) i (Err error) s =
        subst (λ (o : Option (Fault ProofKind)). IfSome o (IsFirst (reader (proofs_of p)) (length bytes) (tokens p bytes))) (sym s) tt
    go (Refused y) i (Ok made) s = absurd s
    go (Refused y) i (Err error) s = first y i (refusal_in error) s

-- the progress with this state, and whether there was a fault
abbrev pub progress : State → Bool → Progress
progress s broken = record { kept = s; broken = broken }

-- the fault that is reported of a piece is its first one
shown_kind : (p : Program) (o : Option ProofKind) (at : ℕ) → first_shown (proofs_of p) None (refusals o at) ≡ kind_at o at
shown_kind p None at = refl
shown_kind p (Some k) at = refl

-- after a fault no other one is shown
pub shown_behind : (p : Program) (es : List (Event Piece)) (s : State) (broken : Bool) (piece : Piece) (at : ℕ)
    → progress s broken ≡ state (proof_fold p) es
    → cond broken None (refusal_of p s piece at)
    ≡ first_shown (proofs_of p) None (refusals (reported_fault p (state (proof_fold p) es) piece) (position_of p (state (proof_fold p) es).kept piece at))
shown_behind p es s broken piece at e =
    go broken
    ∙ ap (λ (t : Progress). first_shown (proofs_of p) None (refusals (reported_fault p t piece) (position_of p t.kept piece at))) e
  where
    go : (v : Bool) → cond v None (refusal_of p s piece at)
        ≡ first_shown (proofs_of p) None (refusals (reported_fault p (progress s v) piece) (position_of p s piece at))
    go true = refl
    go false = sym (shown_kind p (fault_of_piece p s piece) (position_of p s piece at))

-- a fault is reported exactly if a piece has one
refusal_is_some : (first_refusal : Option (code_fault.Fault ProofKind)) (o : Option ProofKind) (at : ℕ) → fault_of first_refusal ≡ kind_at o at → is_some first_refusal ≡ is_some o
refusal_is_some None None at e = refl
refusal_is_some None (Some k) at e = cc
refusal_is_some (Some x) None at e = cc
refusal_is_some (Some x) (Some k) at e = refl

-- the code's progress after one more piece
pub progressed : (p : Program) (es : List (Event Piece)) (piece : Piece) (at : ℕ) (old new : State) (broken behind : Bool)
    (first_refusal : Option (code_fault.Fault ProofKind)) → progress old broken ≡ state (proof_fold p) es
    → new ≡ moved p piece old → fault_of first_refusal ≡ refusal_of p old piece at → behind ≡ (broken || is_some first_refusal)
    → progress new behind ≡ state (proof_fold p) (Read piece ∷ es)
progressed p es piece at old new broken behind first_refusal k m t b =
    ap (λ (s : State). progress s behind) m
    ∙ ap (progress (moved p piece old))
    (b ∙ ap (λ (v : Bool). broken || v) (refusal_is_some first_refusal (fault_of_piece p old piece) (position_of p old piece at) t))
    ∙ ap (λ (s : Progress). (proof_fold p).read piece s) k

-- the code's progress after one more mark
pub marked : (p : Program) (es : List (Event Piece)) (mark : ℕ) (old new : State) (broken : Bool)
    → progress old broken ≡ state (proof_fold p) es → new ≡ done mark old
    → progress new broken ≡ state (proof_fold p) (Did mark ∷ es)
marked p es mark old new broken k d =
    ap (λ (s : State). progress s broken) d ∙ ap (λ (s : Progress). (proof_fold p).done mark s) k

-- reading the tokens of a program's proof file gives the answer
pub judged : (bytes : List ℕ) (p q : Program) (ts : List (Token Piece)) (result : Result ProofFile (Refusal ProofKind))
    → q ≡ p → ts ≡ tokens p bytes
    → Says (λ made t. file_of made ≡ t) (answer (reader (proofs_of q)) (length bytes) ts) result
    → AgreesWith file_of refused_in (answer (reader (proofs_of p)) (length bytes) (tokens p bytes)) result
judged bytes p q ts result e f s =
    says_then_agrees file_of (answer (reader (proofs_of p)) (length bytes) (tokens p bytes)) result
    (subst (λ (us : List (Token Piece)). Says (λ made t. file_of made ≡ t) (answer (reader (proofs_of p)) (length bytes) us) result)
    f
    (subst (λ (r : Program). Says (λ made t. file_of made ≡ t) (answer (reader (proofs_of r)) (length bytes) ts) result) e s))
