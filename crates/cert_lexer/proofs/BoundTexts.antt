-- A tidy bound within the limits is the answer to the pieces that spell it, and to no others.
use Rattle.std.proofs.Common.{◌≡◌, ℕ, List, map, length, Option, ap, sym, subst, ◌∙◌, arith}
use Rattle.its_model.specs.model.Bounds.{Bound}
use Rattle.bound_expr.specs.Numbers.{ReadsBelow}
use Rattle.bound_expr.specs.Tidy.{IsTidy}
use Rattle.bound_text.specs.Kinds.{Kind}
use Rattle.bound_text.specs.Pieces.{Piece}
use Rattle.bound_text.specs.Printing.{piece_of}
use Rattle.bound_text.specs.Reading.{bounds}
use Rattle.bound_text.specs.Texts.{IsWithin}
use Rattle.bound_text.specs.Writing.{pieces_of}
use Rattle.bound_text.proofs.KeptBounds.{AllPiecesKept, kept_tidy, tidy_kept}
use Rattle.bound_text.proofs.Limits.{IsKept, IsKeptWithin, IsSmall, keeps_limits, shows_no_limit}
use Rattle.bound_text.proofs.ReaderLaws.{bound_laws}
use Rattle.bound_text.proofs.TextAnswers.{pieces_kept}
use Rattle.text_grammar.specs.text_core.Reading.{Answer, Answers, Parsed, Refused, answer}
use Rattle.text_core.proofs.FirstFaults.{answer_is}
use Rattle.text_core.proofs.Limits.{answered_within, within_answered}
use Rattle.cert_lexer.specs.declared.inner.Inner.{Inner}
use Rattle.cert_lexer.specs.Bounds.{answer_with, as_cert_answer, bound_answer, counted_from, deep_part, pieces_in, stops_in}
use Rattle.cert_lexer.specs.Bounds.{IsSpelled}
use Rattle.cert_lexer.proofs.BoundLaws.{counted_pieces}

-- the answer to pieces that spell a tidy bound within the limits is that bound
pub bound_stands : (n : ℕ) (b : Bound) (xs : List Inner) → IsTidy b → ReadsBelow n b → IsWithin b
    → map (λ x. piece_of x.piece) xs ≡ pieces_of b → bound_answer n xs ≡ Parsed b
bound_stands n b xs tidy listed within spells =
    let k = tidy_kept n b tidy listed within.bases in
    ap (λ (a : Answer Bound Kind). answer_with (as_cert_answer a) (deep_part (stops_in (pieces_in xs))))
    (within_answered (bounds n) (bound_laws n) (IsKeptWithin n) (IsSmall n) (shows_no_limit n) (length xs) (counted_from 0 xs) b
    (k.0, sym (counted_pieces 0 xs ∙ spells)) (record { kept = k.1; levels = within.levels; nodes = within.nodes }))

-- the properties of an answered bound
pub record IsAnswered (n : ℕ) (b : Bound) (ps : List Piece) : Type 0 where
  pub tidy : IsTidy b
  pub listed : ReadsBelow n b
  pub within : IsWithin b
  pub spells : pieces_of b ≡ ps
  pub kept : AllPiecesKept n ps

-- a bound that is the answer inside a proof file is the answer to the text alone
parsed_alone : (a : Answer Bound Kind) (deep : Option ℕ) (b : Bound) → answer_with (as_cert_answer a) deep ≡ Parsed b → a ≡ Parsed b
parsed_alone (Parsed c) deep b e = let same : c ≡ b = cc in ap Parsed same
parsed_alone (Refused x) deep b e = cc

-- the bound that is the answer to pieces is spelled by them, tidy and within the limits
pub answered : (n : ℕ) (b : Bound) (xs : List Inner) → bound_answer n xs ≡ Parsed b → IsAnswered n b (pieces_in xs)
answered n b xs h =
    let e = parsed_alone (answer (bounds n) (length xs) (counted_from 0 xs)) (deep_part (stops_in (pieces_in xs))) b h in
    let is = subst (Answers (bounds n) (length xs) (counted_from 0 xs)) e
    (answer_is (bounds n) (bound_laws n) (length xs) (counted_from 0 xs)) in
    let k = answered_within (bounds n) (bound_laws n) (IsKeptWithin n) (IsKept n) (keeps_limits n) (length xs) (counted_from 0 xs) b e in
    let t = kept_tidy n b is.written.0 k.kept in
    let spells : pieces_of b ≡ pieces_in xs = is.written.1 ∙ counted_pieces 0 xs in
    let few = k.nodes in
    record {
      tidy = t.0;
      listed = t.1;
      within = record { levels = k.levels; nodes = k.nodes; bases = t.2 };
      spells = spells;
      kept = subst (AllPiecesKept n) spells (pieces_kept n b is.written.0 k.kept (omega (arith, few)));
    }

pub answered_spelled : (n : ℕ) (b : Bound) (xs : List Inner) → bound_answer n xs ≡ Parsed b → IsSpelled n b xs
answered_spelled n b xs h =
    let a = answered n b xs h in
    record { tidy = a.tidy; listed = a.listed; within = a.within; spells = sym a.spells }
