-- The text of a bound is within one line, and determines the bound.
use Rattle.std.proofs.Common.{◌≡◌, ℕ, zero, suc, true, List, [], ◌∷◌, ◌++◌, length, drop, slice_index_or, codes, refl}
use Rattle.std.proofs.Common.{sym, ◌∙◌, ap, append_assoc}
use Rattle.std.specs.List.{list_all}
use Rattle.model.specs.Programs.{Name}
use Rattle.model.specs.Bounds.{Bound}
use Rattle.its_model.specs.text_core.Names.{AreNames}
use Rattle.bound_text.specs.Pieces.{Piece, Variable, Number, Maximum, Open, Close, Times, Caret, Plus, Blank, Comma}
use Rattle.bound_text.specs.Pieces.{Wrong, spelled, bytes_of}
use Rattle.bound_text.specs.Writing.{pieces_of}
use Rattle.bound_text.specs.Texts.{text_of}
use Rattle.bound_text.proofs.TextAnswers.{one_bound}
use Rattle.report_text.specs.Reports.{bound_end, none_end}
use Rattle.report_text.specs.Printable.{IsPrintableBound}
use Rattle.report_text.proofs.DistinguishedTexts.{same_front}
use Rattle.report_text.proofs.Digits.{is_plain, all_plain}
use Rattle.report_text.proofs.SymbolNames.{name_plain, both_plain}

-- a text is one line, with its line feed
pub record IsLine (text : List ℕ) : Type 0 where
  pub words : List ℕ
  pub plain : list_all is_plain words ≡ true
  pub ends : text ≡ words ++ codes "\n"

-- if two texts that begin with a line are the same, their first lines are the same
pub lines_same : (x y : List ℕ) → IsLine x → IsLine y → (u v : List ℕ) → x ++ u ≡ y ++ v → (x ≡ y) × (u ≡ v)
lines_same x y a b u v e =
    let lines : (a.words ++ codes "\n") ++ u ≡ (b.words ++ codes "\n") ++ v = ap (λ (w : List ℕ). w ++ u) (sym a.ends) ∙ (e ∙ ap (λ (w : List ℕ). w ++ v) b.ends) in
    let r = same_front is_plain a.words b.words (codes "\n" ++ u) (codes "\n" ++ v) a.plain b.plain refl refl
    (sym (append_assoc a.words (codes "\n") u) ∙ (lines ∙ append_assoc b.words (codes "\n") v)) in
    (a.ends ∙ (ap (λ (w : List ℕ). w ++ codes "\n") r.0 ∙ sym b.ends), ap (drop 1) r.1)

-- a name that is listed, or none, is plain
listed_plain : (names : List Name) → AreNames names → (i : ℕ) → list_all is_plain (slice_index_or names i []) ≡ true
listed_plain [] are zero = refl
listed_plain [] are (suc i) = refl
listed_plain (n ∷ names) are zero = name_plain n are.0
listed_plain (n ∷ names) are (suc i) = listed_plain names are.2 i

module _ (names : List Name) (are : AreNames names) where
  -- the text of a piece of a bound is plain
  piece_plain : (piece : Piece) → list_all is_plain (spelled names piece) ≡ true
  piece_plain (Variable i) = listed_plain names are i
  piece_plain (Number n) = all_plain n
  piece_plain Maximum = refl
  piece_plain Open = refl
  piece_plain Close = refl
  piece_plain Times = refl
  piece_plain Caret = refl
  piece_plain Plus = refl
  piece_plain Blank = refl
  piece_plain Comma = refl
  piece_plain Wrong = refl

  -- the texts of pieces of a bound are plain
  pieces_plain : (ps : List Piece) → list_all is_plain (bytes_of names ps) ≡ true
  pieces_plain [] = refl
  pieces_plain (piece ∷ ps) = both_plain (spelled names piece) (bytes_of names ps) (piece_plain piece) (pieces_plain ps)

  -- a bound ends its line
  pub bound_line : (b : Bound) → IsLine (bound_end names b)
  bound_line b = record { words = text_of names b; plain = pieces_plain (pieces_of b); ends = refl }

  -- equal lines of printable bounds have equal bounds
  pub bound_same : (a b : Bound) → IsPrintableBound (length names) a → IsPrintableBound (length names) b → bound_end names a ≡ bound_end names b → a ≡ b
  bound_same a b p q e =
      let r = same_front is_plain (text_of names a) (text_of names b) (codes "\n") (codes "\n") (pieces_plain (pieces_of a)) (pieces_plain (pieces_of b)) refl refl e in
      one_bound.each names are (text_of names a) a b (record { text = refl; tidy = p.tidy; listed = p.listed }) p.fits
      (record { text = sym r.0; tidy = q.tidy; listed = q.listed }) q.fits

-- a missing bound has a line of its own
pub none_line : IsLine none_end
none_line = record { words = codes "unknown"; plain = refl; ends = refl }
