-- The result of reading a text is the answer that the definitions give.
use Rattle.std.proofs.Common.{◌≡◌, ℕ, ◌≤◌, ◌<◌, ◌^◌, true, List, [], ◌∷◌, length, Option, Some, None, refl, ap, sym}
use Rattle.std.proofs.Common.{subst, ◌∙◌, arith}
use Rattle.std.specs.Prelude.{Result, Ok, Err}
use Rattle.text_core.specs.model.Programs.{Name}
use Rattle.text_core.specs.model.Bounds as plain
use Rattle.bound_expr.specs.declared.bound.Bound.{Bound}
use Rattle.bound_expr.specs.Measure.{node_count, depth_of}
use Rattle.bound_text.specs.Shapes.{IsShaped}
use Rattle.text_core.specs.Names.{AreNames}
use Rattle.bound_text.specs.Pieces.{Piece, bytes_of}
use Rattle.bound_text.specs.Writing.{pieces_of}
use Rattle.bound_text.specs.Texts.{IsText, IsTextWithin, HasShortBases, FitsTypes, OneBound}
use Rattle.bound_text.specs.Lexing.{tokens}
use Rattle.bound_text.specs.ParserStates.{ParserState, Whole, ItemRead, IsWellFormed, nodes_of, levels_of, bound_of_parts, can_end}
use Rattle.bound_text.specs.Steps.{state_at_position, step, walk, beginning}
use Rattle.bound_text.specs.Kinds.{Kind, Syntax, NumberTooLarge, UnknownName, TooDeep, TooLarge}
use Rattle.bound_text.specs.Reading.{bounds}
use Rattle.bound_text.specs.Faults.{IsFirst, Answers, GivesBack, TextsHaveNoFault}
use Rattle.text_core.specs.Tokens.{pieces}
use Rattle.text_core.specs.Readers.{Fault}
use Rattle.text_core.specs.Reading as text
use Rattle.text_core.specs.Reading.{Answer, Parsed, Refused, answer}
use Rattle.text_core.proofs.Walks.{walk-none}
use Rattle.text_core.proofs.FirstFaults.{answer_is, one_tree}
use Rattle.text_core.proofs.Limits.{answered_within, within_answered, within_faultless}
use Rattle.bound_text.specs.Views.{IsRefusal, Says}
use Rattle.bound_text.specs.declared.error.BoundTextError.{BoundTextError}
use Rattle.bound_text.specs.declared.error.BoundTextError.TheVariants as errors
use Rattle.bound_text.proofs.SoundnessLaws.{beginning_is_state, step_sound}
use Rattle.bound_text.proofs.BoundParts.{terms_in, factors_in, bound-parts}
use Rattle.bound_text.proofs.StepCases.{step_leads}
use Rattle.bound_text.proofs.TreeSizes.{grows, bound_nodes, bound_depth}
use Rattle.bound_text.proofs.KeptBounds.{Kept, KeptState, AllPiecesKept, kept_state, kept_tidy, tidy_kept}
use Rattle.bound_text.proofs.WalkLaws.{whole_walk}
use Rattle.bound_text.proofs.ReaderLaws.{bound_laws}
use Rattle.bound_text.proofs.KeptBefore.{bound_kept, keeps_back}
use Rattle.bound_text.proofs.Limits.{IsKeptWithin, IsKept, IsSmall, keeps_limits, shows_no_limit}
use Rattle.bound_text.proofs.TextLexing.{text_spelled, pieces_lexed}

-- `Some` is injective on states
some_same : (a b : ParserState) → Some a ≡ Some b → a ≡ b
some_same a b e = cc

-- if the state after pieces meets the conditions, so do the pieces
kept_pieces : (n : ℕ) (ps : List Piece) (f last_one : ParserState) → IsWellFormed f → walk (Some f) ps ≡ Some last_one → KeptState n last_one → nodes_of last_one < 2 ^ 127 → KeptState n f × (nodes_of f < 2 ^ 127) × AllPiecesKept n ps
kept_pieces n [] f last_one is on kept small =
    let same = some_same f last_one on in
    (subst (KeptState n) (sym same) kept, (let e : nodes_of f ≡ nodes_of last_one = ap nodes_of same in omega (arith, e, small)), tt)
kept_pieces n (p ∷ ps) f last_one is on kept small = go (step f p) refl on (λ g is on. kept_pieces n ps g last_one is on kept small)
  where
    go : (o : Option ParserState) → step f p ≡ o → walk o ps ≡ Some last_one → ((g : ParserState) → IsWellFormed g → walk (Some g) ps ≡ Some last_one → KeptState n g × (nodes_of g < 2 ^ 127) × AllPiecesKept n ps)
        → KeptState n f × (nodes_of f < 2 ^ 127) × AllPiecesKept n (p ∷ ps)
    go None s on ih = let e = walk-none step ps in cc
    go (Some g) s on ih =
        let r = ih g (step_sound f g p is s).is_state on in
        let leads = step_leads f g p is s in
        let b = keeps_back n f g p leads r.1 r.0 in
        (b.0, (let e = (grows f g p leads).nodes in omega (arith, e, r.1)), (b.1, r.2))

-- the pieces of a bound lead to a state that ends with it, and meets the conditions
record Led (n : ℕ) (b : plain.Bound) : Type 0 where
  pub shaped : IsShaped b
  pub last_one : ParserState
  pub walked : walk (Some beginning) (pieces_of b) ≡ Some last_one
  pub kept : KeptState n last_one
  pub levels : levels_of last_one ≤ depth_of b
  pub nodes : nodes_of last_one ≤ node_count b

-- the pieces of a bound with the shape of a text that meets the conditions lead to a state that ends with it
shaped_led : (n : ℕ) (b : plain.Bound) → IsShaped b → Kept n b → Led n b
shaped_led n b shaped is_kept = record {
  shaped = shaped;
  last_one = last_one;
  walked = (whole_walk (pieces_of b) b shaped refl).0;
  kept = let q = bound_kept n (terms_in b) (factors_in b) (subst (Kept n) (sym p.0) is_kept) in kept_state n Whole (terms_in b) (factors_in b) ItemRead tt q.0 q.1 tt;
  levels = let d = bound_depth (terms_in b) (factors_in b) p.1 in let e : depth_of (bound_of_parts (terms_in b) (factors_in b)) ≡ depth_of b = ap depth_of p.0 in omega (arith, d, e);
  nodes = let d = bound_nodes (terms_in b) (factors_in b) p.1 in let e : node_count (bound_of_parts (terms_in b) (factors_in b)) ≡ node_count b = ap node_count p.0 in omega (arith, d, e);
}
  where
    p : (bound_of_parts (terms_in b) (factors_in b) ≡ b) × (can_end (factors_in b) ≡ true)
    p = bound-parts b shaped

    last_one : ParserState
    last_one = state_at_position Whole (terms_in b) (factors_in b) ItemRead

-- if a bound with the shape of a text meets the conditions, so do its pieces
pub pieces_kept : (n : ℕ) (b : plain.Bound) → IsShaped b → Kept n b → node_count b < 2 ^ 127 → AllPiecesKept n (pieces_of b)
pieces_kept n b shaped is_kept few =
    let l = shaped_led n b shaped is_kept in
    let small : nodes_of l.last_one < 2 ^ 127 = (let m = l.nodes in omega (arith, m, few)) in
    (kept_pieces n (pieces_of b) beginning l.last_one beginning_is_state l.walked l.kept small).2

-- the pieces of a tidy bound over listed variables lead to a state that ends with it
led : (names : List Name) (bytes : List ℕ) (b : plain.Bound) → IsText names bytes b → HasShortBases b → Led (length names) b
led names bytes b t bases = let k = tidy_kept (length names) b t.tidy t.listed bases in shaped_led (length names) b k.0 k.1

-- the pieces that are cut from a text are those of its bound
pieces_found : (names : List Name) (bytes : List ℕ) (b : plain.Bound) → AreNames names → IsText names bytes b → FitsTypes b → pieces (tokens names bytes) ≡ pieces_of b
pieces_found names bytes b are t fits =
    let l = led names bytes b t fits.bases in
    let n = fits.nodes in
    let small : nodes_of l.last_one < 2 ^ 127 = omega (arith, n, l.nodes) in
    ap (λ (xs : List ℕ). pieces (tokens names xs)) (sym t.text)
    ∙ pieces_lexed names (pieces_of b) beginning l.last_one are beginning_is_state l.walked (kept_pieces (length names) (pieces_of b) beginning l.last_one beginning_is_state l.walked l.kept small).2

-- the text of a tidy bound within the limits is written as that bound, which meets the conditions
text_written : (names : List Name) (bytes : List ℕ) (b : plain.Bound) → AreNames names → IsTextWithin names bytes b → (IsShaped b × (pieces_of b ≡ pieces (tokens names bytes))) × IsKeptWithin (length names) b
text_written names bytes b are t =
    let w = t.within in
    let k = tidy_kept (length names) b t.spells.tidy t.spells.listed w.bases in (
      (k.0, sym (pieces_found names bytes b are t.spells (record { bases = w.bases; nodes = let n = w.nodes in omega (arith, n) }))),
      record { kept = k.1; levels = w.levels; nodes = w.nodes },
    )

-- the bytes of a bound's pieces are the bound's text
written_text : (names : List Name) (bytes : List ℕ) (b : plain.Bound) → IsShaped b × (pieces_of b ≡ pieces (tokens names bytes)) → IsKeptWithin (length names) b → IsTextWithin names bytes b
written_text names bytes b w k =
    let t = kept_tidy (length names) b w.0 k.kept in
    let s = k.nodes in
    let all : AllPiecesKept (length names) (pieces (tokens names bytes)) =
    subst (AllPiecesKept (length names)) w.1 (pieces_kept (length names) b w.0 k.kept (omega (arith, s))) in
    record {
      spells = record { text = ap (bytes_of names) w.1 ∙ sym (text_spelled names 0 0 bytes all); tidy = t.0; listed = t.1 };
      within = record { levels = k.levels; nodes = k.nodes; bases = t.2 };
    }

-- a result of the code that agrees with the answer of reading is an answer to the text
pub says_answers : (names : List Name) (bytes : List ℕ) (result : Result Bound BoundTextError) → Says (answer (bounds (length names)) (length bytes) (tokens names bytes)) result → Answers names bytes result
says_answers names bytes result says = go (answer (bounds (length names)) (length bytes) (tokens names bytes)) refl result says
  where
    first : (a : Answer plain.Bound Kind) → answer (bounds (length names)) (length bytes) (tokens names bytes) ≡ a → text.Answers (bounds (length names)) (length bytes) (tokens names bytes) a
    first a e = subst (text.Answers (bounds (length names)) (length bytes) (tokens names bytes)) e (answer_is (bounds (length names)) (bound_laws (length names)) (length bytes) (tokens names bytes))

    at_position : (x : Fault Kind) (kind : Kind) (p : ℕ) → x.kind ≡ kind → p ≡ x.at → answer (bounds (length names)) (length bytes) (tokens names bytes) ≡ Refused x → IsFirst names bytes (record { kind = kind; at = p })
    at_position x kind p k e is = subst (λ (y : Fault Kind). IsFirst names bytes y) (λ i. record { kind = k i; at = sym e i }) (first (Refused x) is)

    refused : (x : Fault Kind) (kind : Kind) → x.kind ≡ kind → answer (bounds (length names)) (length bytes) (tokens names bytes) ≡ Refused x → (error : BoundTextError) → IsRefusal kind x.at error → Answers names bytes (Err error)
    refused x Syntax k is (errors.Syntax p) h = at_position x Syntax p k h is
    refused x NumberTooLarge k is (errors.NumberTooLarge p) h = at_position x NumberTooLarge p k h is
    refused x UnknownName k is (errors.UnknownName p) h = at_position x UnknownName p k h is
    refused x TooDeep k is (errors.TooDeep p) h = at_position x TooDeep p k h is
    refused x TooLarge k is (errors.TooLarge p) h = at_position x TooLarge p k h is
    refused x kind k is errors.Memory h = tt
    refused x kind k is error h = absurd h

    go : (a : Answer plain.Bound Kind) → answer (bounds (length names)) (length bytes) (tokens names bytes) ≡ a → (result : Result Bound BoundTextError) → Says a result → Answers names bytes result
    go (Parsed b) e (Ok a) says =
        subst (IsTextWithin names bytes) (sym says)
        (written_text names bytes b (first (Parsed b) e).written (answered_within (bounds (length names)) (bound_laws (length names)) (IsKeptWithin (length names)) (IsKept (length names)) (keeps_limits (length names)) (length bytes) (tokens names bytes) b e))
    go (Parsed b) e (Err errors.Memory) says = tt
    go (Parsed b) e (Err error) says = absurd says
    go (Refused x) e (Ok a) says = absurd says
    go (Refused x) e (Err error) says = refused x x.kind refl e error says

-- the answer to the text of a bound within the limits is that bound
text_stands : (names : List Name) (bytes : List ℕ) (b : plain.Bound) → AreNames names → IsTextWithin names bytes b → answer (bounds (length names)) (length bytes) (tokens names bytes) ≡ Parsed b
text_stands names bytes b are t =
    let w = text_written names bytes b are t in
    within_answered (bounds (length names)) (bound_laws (length names)) (IsKeptWithin (length names)) (IsSmall (length names)) (shows_no_limit (length names)) (length bytes) (tokens names bytes) b w.0 w.1

-- a result of the code that agrees with the answer of reading gives back the bound of a text
pub says_gives_back : (names : List Name) (bytes : List ℕ) (result : Result Bound BoundTextError) (b : plain.Bound) → AreNames names → Says (answer (bounds (length names)) (length bytes) (tokens names bytes)) result
    → IsTextWithin names bytes b → GivesBack b result
says_gives_back names bytes result b are says t = go result (subst (λ (v : Answer plain.Bound Kind). Says v result) (text_stands names bytes b are t) says)
  where
    go : (result : Result Bound BoundTextError) → Says (Parsed b) result → GivesBack b result
    go (Ok a) h = h
    go (Err errors.Memory) h = tt
    go (Err error) h = absurd h

-- a text denotes at most one bound
pub one_bound : OneBound
one_bound = record {
  each = λ names are bytes a b ta fa tb fb.
      one_tree (bounds (length names)) (bound_laws (length names)) a b (pieces (tokens names bytes))
      ((led names bytes a ta fa.bases).shaped, sym (pieces_found names bytes a are ta fa)) ((led names bytes b tb fb.bases).shaped, sym (pieces_found names bytes b are tb fb));
}

-- the text of a bound within the limits has no fault
pub texts_have_no_fault : TextsHaveNoFault
texts_have_no_fault = record {
  each = λ names are bytes b x t first.
      let w = text_written names bytes b are t in
      within_faultless (bounds (length names)) (bound_laws (length names)) (IsKeptWithin (length names)) (IsSmall (length names)) (shows_no_limit (length names)) (length bytes) (tokens names bytes) b w.0 w.1 x first.is;
}
