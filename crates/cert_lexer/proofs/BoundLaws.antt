-- Reading a bound piece by piece as a text of its own gives the answer to all its pieces.
use Rattle.std.proofs.Common.{◌≡◌, ℕ, suc, ◌+◌, ◌-◌, ◌≤◌, Bool, true, false, List, [], ◌∷◌, length, Option, Some, None}
use Rattle.std.proofs.Common.{refl, ap, sym, subst, ◌∙◌, arith}
use Rattle.std.specs.Prelude.{Result, Ok, Err, IfOk}
use Rattle.std.specs.declared.alloc.AllocError.{AllocError}
use Rattle.std.specs.Option.{option_map}
use Rattle.its_model.specs.model.Bounds as plain
use Rattle.bound_expr.specs.declared.bound.Bound.{Bound}
use Rattle.bound_expr.specs.Limits.{depth_limit}
use Rattle.bound_expr.specs.Views.{bound_of}
use Rattle.bound_text.specs.Pieces.{Piece, Caret}
use Rattle.bound_text.specs.Printing.{piece_of}
use Rattle.bound_text.specs.Kinds as kinds
use Rattle.bound_text.specs.Kinds.{Kind}
use Rattle.bound_text.specs.ParserStates.{ParserState, levels_of}
use Rattle.bound_text.specs.Steps.{beginning, finish, step}
use Rattle.bound_text.specs.Checks.{PieceResult, Refused as RefusedPiece, Reached, caret_next, has_large_base, piece_result}
use Rattle.bound_text.specs.Reading.{bounds}
use Rattle.bound_text.specs.Views.{Finishes, IsKind, Obeys, state_of}
use Rattle.bound_text.specs.declared.fault.Fault.{Fault}
use Rattle.bound_text.specs.declared.fault.Fault.TheVariants as faults
use Rattle.bound_text.specs.declared.state.Reader.{Reader}
use Rattle.bound_text.proofs.Limits.{base_kept, base_ok}
use Rattle.bound_text.proofs.PieceFaults.{IsJudged, IsRefused, IsTaken, piece_judged}
use Rattle.bound_text.proofs.ReaderLaws.{is_state}
use Rattle.bound_text.proofs.ReadingLaws.{run_refused, run_taken}
use Rattle.bound_text.proofs.StepCases.{step_leads}
use Rattle.text_grammar.specs.text_core.Tokens.{AreInOrder, Token, pieces}
use Rattle.text_grammar.specs.text_core.Readers.{next, reached}
use Rattle.text_grammar.specs.text_core.Reading.{Answer, Parsed, Going, answer, ended, run}
use Rattle.cert_lexer.specs.declared.inner.BoundRead.{BoundRead}
use Rattle.cert_lexer.specs.declared.inner.Inner.{Inner}
use Rattle.cert_lexer.specs.declared.kind.ProofKind.{ProofKind}
use Rattle.cert_lexer.specs.Bounds.{answer_alone, as_cert_answer, counted_from, kind_from, kind_of, pieces_in, refused_at}

-- the pieces of counted tokens are the pieces that were counted
pub counted_pieces : (i : ℕ) (xs : List Inner) → pieces (counted_from i xs) ≡ pieces_in xs
counted_pieces i [] = refl
counted_pieces i (x ∷ xs) = ap (λ (ps : List Piece). piece_of x.piece ∷ ps) (counted_pieces (suc i) xs)

-- counted tokens follow each other
counted_order : (i n : ℕ) (xs : List Inner) → i + length xs ≤ n → AreInOrder i (counted_from i xs) n
counted_order i n [] h = omega (arith, h)
counted_order i n (x ∷ xs) h = (omega arith, omega arith, counted_order (suc i) n xs (omega (arith, h)))

-- the state f, with the pieces that are left, decides the answer to all pieces
pub record Decides (n : ℕ) (all left : List Inner) (f : ParserState) : Type 0 where
  pub within : length left ≤ length all
  pub done : List (Token Piece)
  pub led : reached (bounds n) (pieces done) ≡ Some f
  pub shallow : levels_of f ≤ depth_limit
  pub bases : caret_next (pieces_in left) ≡ true → has_large_base f Caret ≡ false
  pub same : answer (bounds n) (length all) (counted_from 0 all)
      ≡ run (bounds n) (length all) (Going None done f) (counted_from (length all - length left) left)

-- the first state, with all pieces left, decides the answer
pub decides_first : (n : ℕ) (all : List Inner) → Decides n all all beginning
decides_first n all = record {
  within = omega arith;
  done = [];
  led = refl;
  shallow = omega arith;
  bases = λ h. refl;
  same = ap (λ (at : ℕ). run (bounds n) (length all) (Going None [] beginning) (counted_from at all))
      (let e : 0 ≡ length all - length all = omega arith in e);
}

-- a refusal of the code is told as that of its kind
told : (kind : Kind) (fault : Fault) (k : ProofKind) → IsKind kind fault → kind_from fault ≡ Some k → k ≡ kind_of kind
told kinds.Syntax faults.Syntax k h e = cc
told kinds.NumberTooLarge faults.NumberTooLarge k h e = cc
told kinds.UnknownName faults.UnknownName k h e = cc
told kinds.TooDeep faults.TooDeep k h e = cc
told kinds.TooLarge faults.TooLarge k h e = cc
told kind faults.Memory k h e = cc
told kind fault k h e = absurd h

told_answer : (kind : Kind) (fault : Fault) (at : ℕ) (a : Answer plain.Bound ProofKind) → IsKind kind fault
    → option_map (refused_at at) (kind_from fault) ≡ Some a → a ≡ refused_at at (kind_of kind)
told_answer kind fault at a h e = go (kind_from fault) refl e
  where
    go : (o : Option ProofKind) → kind_from fault ≡ o → option_map (refused_at at) o ≡ Some a → a ≡ refused_at at (kind_of kind)
    go None i e = cc
    go (Some k) i e =
        let same : a ≡ refused_at at k = cc in same ∙ ap (refused_at at) (told kind fault k h i)

-- laws for the next piece
module _ (n : ℕ) (all left behind : List Inner) (x : Inner) (f : ParserState) (is : left ≡ x ∷ behind)
    (d : Decides n all left f) where
  -- the piece as a token, and the tokens after it
  abbrev token : Token Piece
  token = record { piece = piece_of x.piece; at = length all - length left; upto = suc (length all - length left) }

  abbrev rest : List (Token Piece)
  rest = counted_from (suc (length all - length left)) behind

  next_tokens : counted_from (length all - length left) left ≡ token ∷ rest
  next_tokens = ap (counted_from (length all - length left)) is

  places : suc (length all - length left) ≡ length all - length behind
  places = let s = ap length is in let w = d.within in omega (arith, s, w)

  -- the result of taking the piece is the first of its faults or the next state
  judged : IsJudged n f (piece_of x.piece) (pieces rest) (piece_result n (caret_next (pieces rest)) f (piece_of x.piece))
  judged =
      piece_judged n f (piece_of x.piece) (pieces rest) (is_state n (pieces d.done) f d.led) d.shallow
      (base_ok f.position f.factors (piece_of x.piece) (λ h. d.bases (ap (λ (xs : List Inner). caret_next (pieces_in xs)) is ∙ h)))

  module _ (r : Reader) (caret : Bool) (result : Result (Unit {0}) Fault) (next_is : caret ≡ caret_next (pieces_in behind))
      (obeys : Obeys (piece_result n caret f (piece_of x.piece)) r result) where
    -- the code's result of taking the piece is that of the definition
    checked : piece_result n caret f (piece_of x.piece) ≡ piece_result n (caret_next (pieces rest)) f (piece_of x.piece)
    checked =
        ap (λ (v : Bool). piece_result n v f (piece_of x.piece))
        (next_is ∙ ap caret_next (sym (counted_pieces (suc (length all - length left)) behind)))

    -- if the piece is taken, the next state decides the answer
    pub decides_on : (u : Unit {0}) → result ≡ Ok u → Decides n all behind (state_of r)
    decides_on u ok = go (piece_result n caret f (piece_of x.piece)) refl (subst (Obeys (piece_result n caret f (piece_of x.piece)) r) ok obeys)
      where
        taken : (g : ParserState) → piece_result n caret f (piece_of x.piece) ≡ Reached g
            → IsTaken n f (piece_of x.piece) (pieces rest) g
        taken g e = subst (IsJudged n f (piece_of x.piece) (pieces rest)) (sym checked ∙ e) judged

        on : IsTaken n f (piece_of x.piece) (pieces rest) (state_of r) → Decides n all behind (state_of r)
        on t = record {
          within = let s = ap length is in let w = d.within in omega (arith, s, w);
          done = token ∷ d.done;
          led = ap (λ (o : Option ParserState). next step o (piece_of x.piece)) d.led ∙ t.leads;
          shallow = t.levels;
          bases = λ h.
              base_kept n f (state_of r) (piece_of x.piece) (pieces rest) t.leads t.none
              (step_leads f (state_of r) (piece_of x.piece) (is_state n (pieces d.done) f d.led) t.leads)
              (ap caret_next (counted_pieces (suc (length all - length left)) behind) ∙ h);
          same =
              d.same ∙ ap (run (bounds n) (length all) (Going None d.done f)) next_tokens
              ∙ run_taken n (length all) d.done rest f (state_of r) token t
              ∙ ap (λ (at : ℕ). run (bounds n) (length all) (Going None (token ∷ d.done) (state_of r)) (counted_from at behind)) places;
        }

        go : (k : PieceResult) → piece_result n caret f (piece_of x.piece) ≡ k → Obeys k r (Ok u) → Decides n all behind (state_of r)
        go (RefusedPiece kind) e h = absurd h
        go (Reached g) e h = on (taken (state_of r) (e ∙ ap Reached h.0))

    -- if the piece is refused, its fault is the answer
    pub decides_not : (fault : Fault) (at : ℕ) (a : Answer plain.Bound ProofKind) → result ≡ Err fault
        → at ≡ length all - length left → option_map (refused_at at) (kind_from fault) ≡ Some a → a ≡ answer_alone n all
    decides_not fault at a err here tells = go (piece_result n caret f (piece_of x.piece)) refl (subst (Obeys (piece_result n caret f (piece_of x.piece)) r) err obeys)
      where
        off : (kind : Kind) → IsRefused n f (piece_of x.piece) (pieces rest) kind → IsKind kind fault → a ≡ answer_alone n all
        off kind t h =
            told_answer kind fault at a h tells
            ∙ ap (λ (p : ℕ). refused_at p (kind_of kind)) here
            ∙ sym (ap as_cert_answer (d.same ∙ ap (run (bounds n) (length all) (Going None d.done f)) next_tokens
            ∙ run_refused n (length all) d.done rest f token kind d.led (omega arith)
            (counted_order (suc (length all - length left)) (length all) behind (let s = ap length is in let w = d.within in omega (arith, s, w))) t))

        only_memory : (g : ParserState) (fault : Fault) → Obeys (Reached g) r (Err fault)
            → option_map (refused_at at) (kind_from fault) ≡ Some a → a ≡ answer_alone n all
        only_memory g faults.Memory h e = cc
        only_memory g fault h e = absurd h

        go : (k : PieceResult) → piece_result n caret f (piece_of x.piece) ≡ k → Obeys k r (Err fault) → a ≡ answer_alone n all
        go (RefusedPiece kind) e h = off kind (subst (IsJudged n f (piece_of x.piece) (pieces rest)) (sym checked ∙ e) judged) h
        go (Reached g) e h = only_memory g fault h tells

-- after the last piece, the answer is the bound of the state, or `Syntax` at the end
answer_end : (n : ℕ) (all left : List Inner) (f : ParserState) → Decides n all left f → length left ≡ 0
    → answer_alone n all
    ≡ as_cert_answer (ended (bounds n) None (finish f) (record { kind = kinds.Syntax; at = length all }))
answer_end n all left f d none = ap as_cert_answer (d.same ∙ go left none)
  where
    go : (xs : List Inner) → length xs ≡ 0
        → run (bounds n) (length all) (Going None d.done f) (counted_from (length all - length left) xs)
        ≡ ended (bounds n) None (finish f) (record { kind = kinds.Syntax; at = length all })
    go [] e = refl
    go (y ∷ ys) e = cc

pub decides_bound : (n : ℕ) (all left : List Inner) (f : ParserState) (result : Result Bound Fault) (b : Bound) → Decides n all left f
    → length left ≡ 0 → result ≡ Ok b → Finishes (finish f) result → Parsed (bound_of b) ≡ answer_alone n all
decides_bound n all left f result b d none ok fin =
    let e : finish f ≡ Some (bound_of b) = subst (Finishes (finish f)) ok fin in
    sym (answer_end n all left f d none
    ∙ ap (λ (o : Option plain.Bound). as_cert_answer (ended (bounds n) None o (record { kind = kinds.Syntax; at = length all }))) e)

pub decides_end : (n : ℕ) (all left : List Inner) (f : ParserState) (result : Result Bound Fault) (fault : Fault) (at : ℕ)
    (a : Answer plain.Bound ProofKind) → Decides n all left f → length left ≡ 0 → result ≡ Err fault → Finishes (finish f) result
    → at ≡ length all → option_map (refused_at at) (kind_from fault) ≡ Some a → a ≡ answer_alone n all
decides_end n all left f result fault at a d none err fin here tells = go fault (subst (Finishes (finish f)) err fin) tells
  where
    go : (fault : Fault) → Finishes (finish f) (Err fault) → option_map (refused_at at) (kind_from fault) ≡ Some a → a ≡ answer_alone n all
    go faults.Syntax e t =
        told_answer kinds.Syntax faults.Syntax at a tt t
        ∙ ap (λ (p : ℕ). refused_at p (kind_of kinds.Syntax)) here
        ∙ sym (answer_end n all left f d none
        ∙ ap (λ (o : Option plain.Bound). as_cert_answer (ended (bounds n) None o (record { kind = kinds.Syntax; at = length all }))) e)
    go faults.Memory e t = cc
    go fault e t = absurd e

-- what follows from a property of a result follows if no allocation fails
pub on_read : (result : Result BoundRead AllocError) (P Q : BoundRead → Type 0) → ((read : BoundRead) → P read → Q read) → IfOk result P
    → IfOk result Q
on_read (Ok read) P Q f h = f read h
on_read (Err e) P Q f h = tt
