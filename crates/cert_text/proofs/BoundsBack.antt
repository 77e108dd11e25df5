-- A bound inside a proof file that was read along bytes is spelled by them.
use Rattle.std.proofs.Common.{◌≡◌, ℕ, zero, suc, ◌≤◌, ◌<◌, ◌^◌, Bool, true, false, cond, List, [], ◌∷◌, ◌++◌, length, drop}
use Rattle.std.proofs.Common.{Option, Some, None, refl, ap, sym, subst, ◌∙◌, arith, append-nil, append_assoc}
use Rattle.its_model.specs.model.Programs.{Program}
use Rattle.its_model.specs.model.Bounds.{Bound}
use Rattle.bound_text.specs.declared.piece.Piece.{Piece as BoundPiece}
use Rattle.bound_text.specs.Lexing as bounds
use Rattle.bound_text.specs.Pieces.{Piece as Plain, bytes_of, spelled}
use Rattle.bound_text.specs.Printing.{piece_of}
use Rattle.bound_text.specs.Texts.{text_of}
use Rattle.bound_text.proofs.KeptBounds.{KeptPiece, AllPiecesKept}
use Rattle.text_grammar.specs.text_core.Reading.{Answer, Parsed, Refused}
use Rattle.text_grammar.specs.text_core.Tokens.{Lexeme}
use Rattle.text_grammar.specs.declared.symbol.Symbol.{Symbol}
use Rattle.text_grammar.specs.declared.symbol.Symbol.TheVariants as item
use Rattle.cert_lexer.specs.declared.inner.Inner.{Inner}
use Rattle.cert_lexer.specs.declared.kind.ProofKind.{ProofKind}
use Rattle.cert_lexer.specs.declared.piece.Mode.{Mode}
use Rattle.cert_lexer.specs.declared.piece.Mode.TheVariants as mode
use Rattle.cert_lexer.specs.declared.piece.Piece.{Piece}
use Rattle.cert_lexer.specs.declared.piece.Piece.TheVariants.{InBound}
use Rattle.cert_lexer.specs.Bounds.{bound_answer, pieces_in}
use Rattle.cert_lexer.specs.Grammar.{class_of}
use Rattle.cert_lexer.specs.Lexing.{bound_lexeme, depth_behind, ends_before, ends_bound, lexer_of, mode_with, pieces_behind}
use Rattle.cert_lexer.specs.Lexing.{plain_lexeme, symbol_names}
use Rattle.cert_lexer.proofs.CutBack.{plain_no_bound}
use Rattle.cert_lexer.proofs.InnerBack.{inner_back, inner_only}
use Rattle.cert_lexer.proofs.PieceClasses.{class_bound}
use Rattle.cert_lexer.proofs.BoundTexts.{answered}
use Rattle.cert_text.specs.NumberFaults.{fault_of_answer, fault_of_piece, bound_in}
use Rattle.cert_text.specs.Reading.{moved}
use Rattle.cert_text.specs.Remembered.{Draft, State, done}
use Rattle.cert_text.specs.Spelled.{IsBoundWithin}
use Rattle.cert_text.proofs.Along.{Along, IsCutOff}
use Rattle.cert_text.proofs.Back.{made_back, mark_back, mode_to, read_back, turned_to}
use Rattle.cert_text.proofs.States.{Base, Last, Sure, held, st}

-- symbols that are read along bytes begin with no piece of a bound
abbrev pub Ends : Program → List Symbol → (State → Type 0) → Type 0
Ends p ss Q =
    (s : State) (m : Mode) (whole : List ℕ) (first : ℕ) (others : List ℕ) (q : BoundPiece) (len : ℕ) (last : Bool)
    → whole ≡ first ∷ others → ((lexer_of p).lexeme_in m first others).piece ≡ Some (InBound q len last)
    → Along p ss s m whole Q → ⊥

-- symbols that begin with a piece of another class, also after marks, begin with no piece of a bound
pub ends_piece : {p : Program} {ss : List Symbol} {Q : State → Type 0} (c : ℕ) → ¬ (c ≡ 44) → Ends p (item.Piece c ∷ ss) Q
ends_piece {p} c other s m whole first others q len last e f a = read_back c a (λ r rest is none cut more.
    let same : first ∷ others ≡ cut.first ∷ cut.others = sym e ∙ cut.begins in
    let one : first ≡ cut.first = cc in
    let two : others ≡ cut.others = cc in
    let found : Some (InBound q len last) ≡ Some r =
    sym f ∙ ap (λ (b : ℕ). ((lexer_of p).lexeme_in m b others).piece) one
    ∙ ap (λ (bs : List ℕ). ((lexer_of p).lexeme_in m cut.first bs).piece) two
    ∙ ap (λ (l : Lexeme (Option Piece)). l.piece) cut.cut in
    let piece : InBound q len last ≡ r = cc in
    other (sym is ∙ ap class_of (sym piece)))

pub ends_mark : {p : Program} {ss : List Symbol} {Q : State → Type 0} (n : ℕ) → Ends p ss Q → Ends p (item.Mark n ∷ ss) Q
ends_mark n h s m whole first others q len last e f a =
    h (done n s) m whole first others q len last e f (mark_back n a)

-- the bytes after a prefix are no longer than all
drop_few : (n : ℕ) (xs : List ℕ) → length (drop n xs) ≤ length xs
drop_few zero xs = omega arith
drop_few (suc n) [] = omega arith
drop_few (suc n) (x ∷ xs) = let h = drop_few n xs in omega (arith, h)

-- an answer without a fault is a bound
stands_so : (a : Answer Bound ProofKind) → fault_of_answer a ≡ None → (w : Bound) × (a ≡ Parsed w) × (bound_in a ≡ w)
stands_so (Parsed w) h = (w, refl, refl)
stands_so (Refused x) h = cc

-- after a bound has ended, no piece of it follows
ended_so : (p : Program) (depth before : ℕ) (rest : List ℕ) (q : Piece) (behind : List ℕ) → true ≡ ends_before depth rest
    → class_of q ≡ 44 → IsCutOff p (mode.InBound depth before) q rest behind → ⊥
ended_so p depth before [] q behind ends is cut = let e = cut.begins in cc
ended_so p depth before (b ∷ bytes) q behind ends is cut =
    let e : b ∷ bytes ≡ cut.first ∷ cut.others = cut.begins in
    let one : b ≡ cut.first = cc in
    let two : bytes ≡ cut.others = cc in
    let c = class_bound q is in
    plain_no_bound (symbol_names p) b bytes c.0 c.1 c.2 cut.some
    (ap (λ (v : Bool). cond v (plain_lexeme (symbol_names p) b bytes)
    (bound_lexeme (length p.start_names) depth before (b ∷ bytes) (bounds.lexeme_at p.start_names b bytes))) ends
    ∙ ap (λ (k : ℕ). (lexer_of p).lexeme_in (mode.InBound depth before) k bytes) one
    ∙ ap (λ (bs : List ℕ). (lexer_of p).lexeme_in (mode.InBound depth before) cut.first bs) two ∙ cut.cut
    ∙ ap (λ (x : Piece). record { piece = Some x; len = suc cut.some }) c.3)

-- before a bound has ended, only pieces of it follow
goes_so : (p : Program) {ss : List Symbol} {Q : State → Type 0} → Ends p ss Q → (s : State) (depth before : ℕ)
    (rest : List ℕ) → false ≡ ends_before depth rest → Along p ss s (mode.InBound depth before) rest Q → ⊥
goes_so p ends s depth before [] on a = cc
goes_so p ends s depth before (b ∷ bytes) on a =
    let i = inner_only (symbol_names p) p.start_names depth before b bytes (sym on) in
    ends s (mode.InBound depth before) (b ∷ bytes) b bytes i.0 i.1 i.2 refl i.3 a

-- if a bound is read to its end, these are its pieces
abbrev Whole : Program → List Symbol → (State → Type 0) → Type 0 → Base → Last → Draft → List ℕ → List Inner → Type 0
Whole p ss Q R c l d whole xs =
    (ys : List Inner) (w : Bound) (behind : ℕ) (rest : List ℕ)
    → bound_answer (length p.start_names) (xs ++ ys) ≡ Parsed w
    → (AllPiecesKept (length p.start_names) (pieces_in ys) → whole ≡ bytes_of p.start_names (pieces_in ys) ++ rest)
    → Along p ss (st c (record l { bound = w }) d) (mode.InBound behind 0) rest Q → R

module _ {p : Program} {ss : List Symbol} {Q : State → Type 0} {R : Type 0} (sure : Sure p) (c : Base) (l : Last) (d : Draft)
    (ends : Ends p ss Q) where
  -- the remaining pieces of a bound that was read along bytes are spelled by them
  inside_back : (f : ℕ) {whole : List ℕ} → length whole < f → (xs : List Inner) (depth before : ℕ)
      → Along p (item.Piece 44 ∷ item.Made 40 ∷ ss) (held c l d xs) (mode.InBound depth before) whole Q → Whole p ss Q R c l d whole xs → R
  inside_back zero few xs depth before a k = absurd (omega (arith, few))
  inside_back (suc f) {whole} few xs depth before a k = read_back 44 a (λ q rest is none cut more.
      let e = class_bound q is in
      let few_names = sure.few_arguments in
      let i = inner_back (symbol_names p) p.start_names depth before cut.first cut.others e.0 e.1 e.2 cut.some
      (omega (arith, few_names)) (cut.cut ∙ ap (λ (x : Piece). record { piece = Some x; len = suc cut.some }) e.3) in
      let long = ap length cut.begins in
      let left = drop_few cut.some cut.others in
      let behind = ap length cut.behind in
      go e.0 e.1 e.2 rest (i.ends ∙ ap (ends_before (depth_behind depth e.0)) cut.behind)
      (λ kept. cut.begins ∙ i.spells kept ∙ ap (λ (bs : List ℕ). spelled p.start_names (piece_of e.0) ++ bs) cut.behind)
      (subst (λ (x : Piece). fault_of_piece p (held c l d xs) x ≡ None) e.3 none)
      (subst (λ (x : Piece). Along p (item.Made 40 ∷ ss) (moved p x (held c l d xs)) (mode_with (mode.InBound depth before) x)
      rest Q) e.3 more)
      (λ ys n m y on_it. inside_back f (omega (arith, few, long, left, behind)) ys n m y on_it))
    where
      go : (q : BoundPiece) (len : ℕ) (last : Bool) (rest : List ℕ) → last ≡ ends_before (depth_behind depth q) rest
          → (KeptPiece (length p.start_names) (piece_of q) → whole ≡ spelled p.start_names (piece_of q) ++ rest)
          → fault_of_piece p (held c l d xs) (InBound q len last) ≡ None
          → Along p (item.Made 40 ∷ ss) (moved p (InBound q len last) (held c l d xs))
          (mode_with (mode.InBound depth before) (InBound q len last)) rest Q
          → ((ys : List Inner) (n m : ℕ)
          → Along p (item.Piece 44 ∷ item.Made 40 ∷ ss) (held c l d ys) (mode.InBound n m) rest Q
          → Whole p ss Q R c l d rest ys → R) → R
      go q len true rest last spells none more ih =
          let x : Inner = record { piece = q; len = len } in
          let w = stands_so (bound_answer (length p.start_names) (xs ++ x ∷ [])) none in
          made_back 40 ((item.Piece 44 ∷ item.Made 40 ∷ []) ∷ [] ∷ []) refl more (
            (λ y. absurd (read_back 44 y (λ r behind is none' cut more'.
                ended_so p (depth_behind depth q) 0 rest r behind last is cut))),
            (
              (λ y. k (x ∷ []) w.0 (depth_behind depth q) rest w.1
                  (λ kept. spells kept.0
                  ∙ ap (λ (bs : List ℕ). bs ++ rest) (sym (append-nil (spelled p.start_names (piece_of q)))))
                  (turned_to (ap (λ (b : Bound). st c (record l { bound = b }) d) w.2) y)),
              tt,
            ),
          )
      go q len false rest last spells none more ih =
          let x : Inner = record { piece = q; len = len } in
          made_back 40 ((item.Piece 44 ∷ item.Made 40 ∷ []) ∷ [] ∷ []) refl more (
            (λ y. ih (xs ++ x ∷ []) (depth_behind depth q) (pieces_behind before false) y
                (λ ys w behind rest' stands spells' z. k (x ∷ ys) w behind rest'
                (sym (ap (bound_answer (length p.start_names)) (append_assoc xs (x ∷ []) ys)) ∙ stands)
                (λ kept. spells kept.0 ∙ ap (λ (bs : List ℕ). spelled p.start_names (piece_of q) ++ bs) (spells' kept.1)
                ∙ sym (append_assoc (spelled p.start_names (piece_of q)) (bytes_of p.start_names (pieces_in ys)) rest')) z)),
            (
              (λ y. absurd (goes_so p ends (held c l d (xs ++ x ∷ [])) (depth_behind depth q) (pieces_behind before false) rest
                  last y)),
              tt,
            ),
          )

  -- a bound that was read along bytes is within the limits, and the bytes are its text
  pub bound_back : {whole : List ℕ}
      → Along p (item.Piece 44 ∷ item.Made 40 ∷ ss) (st c l d) (mode.InBound 0 0) whole Q
      → ((w : Bound) (behind : ℕ) (rest : List ℕ) → IsBoundWithin p w → whole ≡ text_of p.start_names w ++ rest
      → Along p ss (st c (record l { bound = w }) d) (mode.InBound behind 0) rest Q → R) → R
  bound_back {whole} a k = inside_back (suc (length whole)) (omega arith) [] 0 0 a (λ ys w behind rest stands spells z.
      let s = answered (length p.start_names) w ys stands in
      k w behind rest (record { tidy = s.tidy; listed = s.listed; within = s.within })
      (spells s.kept ∙ ap (λ (qs : List Plain). bytes_of p.start_names qs ++ rest) (sym s.spells)) z)
