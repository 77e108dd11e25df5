-- Reading lines piece by piece gives the answer to all of them.
use Rattle.std.proofs.Common.{◌≡◌, ℕ, ◌+◌, Bool, true, false, ◌||◌, List, ◌∷◌, length, Option, Some, None, refl, ap}
use Rattle.std.proofs.Common.{sym, subst, ◌∙◌, arith}
use Rattle.std.specs.Prelude.{Result, Ok, Err, IfOk, IfSome, OnOk, is_some}
use Rattle.its_model.specs.model.Programs.{Name}
use Rattle.text_grammar.specs.text_core.Tokens.{AreInOrder, Token}
use Rattle.text_grammar.specs.text_core.Readers.{Fault}
use Rattle.text_grammar.specs.text_core.Faults.{IsFirst}
use Rattle.text_grammar.specs.text_core.Reading.{Answer, Parsed, Refused, IsTree, answer}
use Rattle.text_grammar.specs.text_core.Reading as reading
use Rattle.text_core.proofs.Lexing.{in_order_in}
use Rattle.text_core.proofs.FirstFaults.{answer_is}
use Rattle.text_grammar.specs.Grammars.{Event, Read}
use Rattle.text_grammar.specs.Folds.{refusals, state}
use Rattle.text_grammar.specs.Marks.{lexer_of}
use Rattle.text_grammar.specs.Texts.{first_shown, reader}
use Rattle.text_grammar.specs.Following.{Says}
use Rattle.text_grammar.specs.Results.{AgreesWith, refused_in}
use Rattle.text_grammar.specs.declared.token.Refusal.{Refusal}
use Rattle.text_grammar.specs.declared.token_stream.OneMode.TheVariants.{Plain}
use Rattle.text_grammar.proofs.ResultLaws.{says_then_agrees}
use Rattle.text_grammar.proofs.ReaderLaws.{reader_laws}
use Rattle.potential_text.specs.declared.error.PotentialTextError.{PotentialTextError}
use Rattle.potential_text.specs.declared.kind.LineKind.{LineKind}
use Rattle.potential_text.specs.declared.kind.Part.{Part}
use Rattle.potential_text.specs.declared.piece.Piece.{Piece}
use Rattle.potential_text.specs.Drafts.{Draft}
use Rattle.potential_text.specs.Faults.{fault_of_piece, kind_at, shown_at}
use Rattle.potential_text.specs.Lexing.{lexeme_at, tokens}
use Rattle.potential_text.specs.Reading.{Progress, reported_fault, line_fold, lines_of, progress}
use Rattle.potential_text.specs.Refusals.{refusal_in}
use Rattle.potential_text.specs.Within.{lexes_within}
use Rattle.potential_text.proofs.LawfulLines.{lawful}

-- the tokens of lines are in order
pub tokens_in_order : (bytes : List ℕ) → AreInOrder 0 (tokens bytes) (length bytes)
tokens_in_order bytes =
    let o = in_order_in (lexer_of (lexeme_at (length bytes))) (λ mode. lexes_within (length bytes)) bytes Plain 0 0
    (omega arith) in
    subst (AreInOrder 0 (tokens bytes)) (let e : 0 + length bytes ≡ length bytes = omega arith in e)
    (subst (λ (n : ℕ). AreInOrder n (tokens bytes) (0 + length bytes)) (let e : 0 + 0 ≡ 0 = omega arith in e) o)

-- lines of which a tree is taken
module _ {T : Type 0} (tree_in : Draft → T) (part : Part) (names : List Name) (bytes : List ℕ) where
  -- a result is the tree that the text spells, or exactly its first fault, or memory ran out
  abbrev pub IsAnswer : {Made : Type 0} → (Made → T) → Result Made PotentialTextError → Type 0
  IsAnswer view (Ok made) =
      IsTree (reader (lines_of tree_in part names bytes)) (length bytes) (tokens bytes) (view made)
  IsAnswer view (Err error) =
      IfSome (refusal_in error) (IsFirst (reader (lines_of tree_in part names bytes)) (length bytes) (tokens bytes))

  -- what a text is refused with is its first fault
  first_is : (y : Fault LineKind) → IsFirst (reader (lines_of tree_in part names bytes)) (length bytes) (tokens bytes) y
      → (o : Option (Fault LineKind)) → IfSome o (λ z. z ≡ y)
      → IfSome o (IsFirst (reader (lines_of tree_in part names bytes)) (length bytes) (tokens bytes))
  first_is y i None s = tt
  first_is y i (Some z) s =
      subst (IsFirst (reader (lines_of tree_in part names bytes)) (length bytes) (tokens bytes)) (sym s) i

  -- a result that agrees with a right answer is right
  agrees_right : {Made : Type 0} (view : Made → T) (a : Answer T LineKind)
      → reading.Answers (reader (lines_of tree_in part names bytes)) (length bytes) (tokens bytes) a
      → (result : Result Made PotentialTextError) → AgreesWith view refusal_in a result → IsAnswer view result
  agrees_right view (Parsed t) i (Ok made) s =
      subst (IsTree (reader (lines_of tree_in part names bytes)) (length bytes) (tokens bytes)) (sym s) i
  agrees_right view (Parsed t) i (Err error) s =
      subst (λ (o : Option (Fault LineKind)). IfSome o
      (IsFirst (reader (lines_of tree_in part names bytes)) (length bytes) (tokens bytes))) (sym s) tt
  agrees_right view (Refused y) i (Ok made) s = absurd s
  agrees_right view (Refused y) i (Err error) s = first_is y i (refusal_in error) s

  -- a result that agrees with the answer is right
  pub tells_answer : {Made : Type 0} (view : Made → T) (result : Result Made PotentialTextError)
      → AgreesWith view refusal_in (answer (reader (lines_of tree_in part names bytes)) (length bytes) (tokens bytes)) result
      → IsAnswer view result
  tells_answer view result h =
      agrees_right view (answer (reader (lines_of tree_in part names bytes)) (length bytes) (tokens bytes))
      (answer_is (reader (lines_of tree_in part names bytes))
      (reader_laws (lines_of tree_in part names bytes) (lawful tree_in part names bytes)) (length bytes)
      (tokens bytes)) result h

  -- the fault that is reported of a piece is its first one
  shown_kind : (o : Option LineKind) (at : ℕ)
      → first_shown (lines_of tree_in part names bytes) None (refusals o at) ≡ kind_at o at
  shown_kind None at = refl
  shown_kind (Some k) at = refl

  -- after a refusal no other one is shown
  pub shown_behind : (es : List (Event Piece)) (d : Draft) (broken : Bool) (piece : Piece) (at : ℕ)
      → progress d broken ≡ state (line_fold tree_in part names bytes) es
      → shown_at broken (fault_of_piece part names bytes piece d) at
      ≡ first_shown (lines_of tree_in part names bytes) None
      (refusals (reported_fault part names bytes (state (line_fold tree_in part names bytes) es) piece) at)
  shown_behind es d broken piece at e =
      go broken
      ∙ ap (λ (t : Progress). first_shown (lines_of tree_in part names bytes) None
      (refusals (reported_fault part names bytes t piece) at)) e
    where
      go : (v : Bool) → shown_at v (fault_of_piece part names bytes piece d) at
          ≡ first_shown (lines_of tree_in part names bytes) None
          (refusals (reported_fault part names bytes (progress d v) piece) at)
      go true = refl
      go false = sym (shown_kind (fault_of_piece part names bytes piece d) at)

-- what follows of the result if it is there
pub on_ok : {A E P Q : Type 0} (r : Result A E) → (P → Q) → OnOk r P → OnOk r Q
on_ok (Ok x) f h = f h
on_ok (Err e) f h = tt

pub if_ok : {A E : Type 0} {P Q : A → Type 0} (r : Result A E) → ((x : A) → P x → Q x) → IfOk r P → IfOk r Q
if_ok (Ok x) f h = f x h
if_ok (Err e) f h = tt

-- texts of lines of one part over the same names and bytes are the same
pub same_lines : {T : Type 0} (tree_in : Draft → T) (p q : Part) (names others : List Name) (text bytes : List ℕ)
    → q ≡ p → others ≡ names → bytes ≡ text → lines_of tree_in q others bytes ≡ lines_of tree_in p names text
same_lines tree_in p q names others text bytes d e f =
    ap (λ (r : Part). lines_of tree_in r others bytes) d
    ∙ ap (λ (ns : List Name). lines_of tree_in p ns bytes) e
    ∙ ap (λ (bs : List ℕ). lines_of tree_in p names bs) f

-- what is known behind an event, of the same part, names and bytes
pub same_state : {T : Type 0} (tree_in : Draft → T) (p q : Part) (names others : List Name) (text bytes : List ℕ)
    (es : List (Event Piece)) (s : Progress) → q ≡ p → others ≡ names → bytes ≡ text
    → s ≡ state (line_fold tree_in p names text) es → s ≡ state (line_fold tree_in q others bytes) es
same_state tree_in p q names others text bytes es s d e f k =
    k ∙ sym (ap (λ (r : Part). state (line_fold tree_in r others bytes) es) d
    ∙ ap (λ (ns : List Name). state (line_fold tree_in p ns bytes) es) e
    ∙ ap (λ (bs : List ℕ). state (line_fold tree_in p names bs) es) f)

-- reading the tokens of a text gives the answer
pub judged : {T Made : Type 0} (tree_in : Draft → T) (view : Made → T) (bytes text : List ℕ) (p q : Part)
    (names others : List Name) (ts : List (Token Piece)) (result : Result Made (Refusal LineKind)) → q ≡ p
    → others ≡ names → text ≡ bytes → ts ≡ tokens bytes
    → Says (λ made t. view made ≡ t) (answer (reader (lines_of tree_in q others text)) (length bytes) ts) result
    → AgreesWith view refused_in (answer (reader (lines_of tree_in p names bytes)) (length bytes) (tokens bytes)) result
judged tree_in view bytes text p q names others ts result d e f g s =
    says_then_agrees view (answer (reader (lines_of tree_in p names bytes)) (length bytes) (tokens bytes)) result
    (subst (λ (us : List (Token Piece)). Says (λ made t. view made ≡ t)
    (answer (reader (lines_of tree_in p names bytes)) (length bytes) us) result) g
    (subst (λ (r : List ℕ). Says (λ made t. view made ≡ t)
    (answer (reader (lines_of tree_in p names r)) (length bytes) ts) result) f
    (subst (λ (ns : List Name). Says (λ made t. view made ≡ t)
    (answer (reader (lines_of tree_in p ns text)) (length bytes) ts) result) e
    (subst (λ (r : Part). Says (λ made t. view made ≡ t)
    (answer (reader (lines_of tree_in r others text)) (length bytes) ts) result) d s))))
