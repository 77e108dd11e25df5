-- A bound inside a proof file is read along its text.
use Rattle.std.proofs.Common.{◌≡◌, ℕ, suc, ◌<◌, ◌^◌, Bool, true, false, List, [], ◌∷◌, ◌++◌, length, Some}
use Rattle.std.proofs.Common.{refl, ap, sym, ◌∙◌, arith, inl, inr, append_assoc}
use Rattle.std.proofs.Math.Seq.{drop-append_seam}
use Rattle.its_model.specs.model.Programs.{Program}
use Rattle.its_model.specs.model.Bounds.{Bound}
use Rattle.bound_text.specs.Pieces.{Piece, bytes_of, spelled}
use Rattle.bound_text.specs.Texts.{text_of}
use Rattle.bound_text.specs.Writing.{pieces_of}
use Rattle.bound_text.proofs.TextLexing.{Closes}
use Rattle.text_grammar.specs.text_core.Reading.{Answer, Parsed}
use Rattle.text_grammar.specs.declared.symbol.Symbol.{Symbol}
use Rattle.text_grammar.specs.declared.symbol.Symbol.TheVariants as item
use Rattle.cert_lexer.specs.declared.inner.Inner.{Inner}
use Rattle.cert_lexer.specs.declared.kind.ProofKind.{ProofKind}
use Rattle.cert_lexer.specs.declared.piece.Mode.TheVariants as mode
use Rattle.cert_lexer.specs.declared.piece.Piece.TheVariants.{InBound}
use Rattle.cert_lexer.specs.Bounds.{bound_answer}
use Rattle.cert_lexer.specs.Lexing.{bound_piece, depth_behind, ends_before, ends_bound, pieces_behind, symbol_names}
use Rattle.cert_lexer.proofs.BoundCuts.{Goes, behind_bracket, pieces_go}
use Rattle.cert_lexer.proofs.BoundBack.{depth_same, ends_so, first_no_end, inner_cut, inner_of, inners, inners_are, is_last}
use Rattle.cert_lexer.proofs.BoundBack.{marked_close, piece_found}
use Rattle.cert_lexer.proofs.BoundTexts.{bound_stands}
use Rattle.cert_text.specs.NumberFaults.{fault_of_answer, bound_in}
use Rattle.cert_text.specs.Remembered.{Draft, State}
use Rattle.cert_text.specs.Spelled.{IsBoundWithin}
use Rattle.cert_text.proofs.Along.{Along, IsCutOff, becomes, in_mode, makes, reads}
use Rattle.cert_text.proofs.States.{Base, Last, Sure, held, st}

-- a piece of a bound is cut from its bytes, before pieces that continue the bound or bytes that end it
bound_cut : (p : Program) → Sure p → (depth before : ℕ) (q : Piece) (qs : List Piece) (b : ℕ) (others : List ℕ)
    → Goes (length p.start_names) depth (q ∷ qs) → ends_bound 0 b ≡ true → Closes (b ∷ others)
    → IsCutOff p (mode.InBound depth before)
    (InBound (bound_piece (length p.start_names) 0 q) (length (spelled p.start_names q)) (is_last qs))
    (bytes_of p.start_names (q ∷ qs) ++ b ∷ others) (bytes_of p.start_names qs ++ b ∷ others)
bound_cut p sure depth before q qs b others goes ends closed =
    let names = p.start_names in
    let n = length names in
    let rest = bytes_of names qs ++ b ∷ others in
    let f = piece_found names q rest sure.arguments goes.0 (λ long. marked_close names qs (b ∷ others) (goes.1 long) closed) in
    let goes_on = first_no_end names depth q f.first f.others sure.arguments goes.0 goes.2 f.split in
    let bytes : bytes_of names (q ∷ qs) ++ b ∷ others ≡ f.first ∷ (f.others ++ rest) =
    append_assoc (spelled names q) (bytes_of names qs) (b ∷ others) ∙ ap (λ (xs : List ℕ). xs ++ rest) f.split in
    let last : ends_before (depth_behind depth (bound_piece n 0 q)) rest ≡ is_last qs =
    ap (λ (k : ℕ). ends_before k rest) (depth_same n depth q goes.3)
    ∙ ends_so names (behind_bracket depth q) qs b others sure.arguments goes.4 ends closed in
    record {
      first = f.first;
      others = f.others ++ rest;
      some = length f.others;
      begins = bytes;
      cut =
          inner_cut (symbol_names p) names depth before q rest f goes.0 goes_on
          ∙ ap (λ (v : Bool). record { piece = Some (InBound (bound_piece n 0 q) (length (f.first ∷ f.others)) v); len = suc (length f.others) }) last
          ∙ ap (λ (k : ℕ). record { piece = Some (InBound (bound_piece n 0 q) k (is_last qs)); len = suc (length f.others) })
          (sym (ap length f.split));
      behind = drop-append_seam f.others rest;
    }

module _ {p : Program} {ss : List Symbol} {Q : State → Type 0} (sure : Sure p) (c : Base) (l : Last) (d : Draft) (w : Bound)
    (x : ℕ) (others : List ℕ) (ends : ends_bound 0 x ≡ true) (closed : Closes (x ∷ others)) where
  -- the remaining pieces of a bound are read
  inside : (q : Piece) (qs : List Piece) (xs : List Inner) (depth before : ℕ) → Goes (length p.start_names) depth (q ∷ qs)
      → bound_answer (length p.start_names) (xs ++ inners p.start_names (q ∷ qs)) ≡ Parsed w
      → Along p ss (st c (record l { bound = w }) d) (mode.InBound 0 0) (x ∷ others) Q
      → Along p (item.Piece 44 ∷ item.Made 40 ∷ ss) (held c l d xs) (mode.InBound depth before)
      (bytes_of p.start_names (q ∷ qs) ++ x ∷ others) Q
  inside q [] xs depth before goes stands more =
      reads (InBound (bound_piece (length p.start_names) 0 q) (length (spelled p.start_names q)) true) (ap fault_of_answer stands)
      (bound_cut p sure depth before q [] x others goes ends closed)
      (in_mode (ap (λ (k : ℕ). mode.InBound k 0) (depth_same (length p.start_names) depth q goes.3 ∙ goes.4))
      (becomes (ap (λ (a : Answer Bound ProofKind). held c (record l { bound = bound_in a }) d []) stands)
      (makes 40 [] (inr (inl refl)) more)))
  inside q (r ∷ rs) xs depth before goes stands more =
      reads (InBound (bound_piece (length p.start_names) 0 q) (length (spelled p.start_names q)) false) refl
      (bound_cut p sure depth before q (r ∷ rs) x others goes ends closed)
      (in_mode (ap (λ (k : ℕ). mode.InBound k (pieces_behind before false)) (depth_same (length p.start_names) depth q goes.3))
      (makes 40 (item.Piece 44 ∷ item.Made 40 ∷ []) (inl refl)
      (inside r rs (xs ++ inner_of p.start_names q ∷ []) (behind_bracket depth q) (pieces_behind before false) goes.4
      (ap (bound_answer (length p.start_names))
      (append_assoc xs (inner_of p.start_names q ∷ []) (inners p.start_names (r ∷ rs))) ∙ stands) more)))

  -- a whole bound within the limits is read along its text
  pub whole_bound : IsBoundWithin p w → Along p ss (st c (record l { bound = w }) d) (mode.InBound 0 0) (x ∷ others) Q
      → Along p (item.Piece 44 ∷ item.Made 40 ∷ ss) (st c l d) (mode.InBound 0 0) (text_of p.start_names w ++ x ∷ others) Q
  whole_bound h more =
      go (pieces_of w) goes (bound_stands n w (inners p.start_names (pieces_of w)) h.tidy h.listed h.within
      (inners_are p.start_names 0 (pieces_of w) few goes))
    where
      n : ℕ
      n = length p.start_names

      few : n < 2 ^ 32
      few = let k = sure.few_arguments in omega (arith, k)

      goes : Goes n 0 (pieces_of w)
      goes = pieces_go n w h.tidy h.listed h.within

      go : (qs : List Piece) → Goes n 0 qs → bound_answer n (inners p.start_names qs) ≡ Parsed w
          → Along p (item.Piece 44 ∷ item.Made 40 ∷ ss) (st c l d) (mode.InBound 0 0) (bytes_of p.start_names qs ++ x ∷ others) Q
      go [] g stands = cc
      go (q ∷ qs) g stands = inside q qs [] 0 0 g stands more
