-- The mode after a piece, by tests of the piece.
use Rattle.std.specs.Prelude.{◌≡◌, ℕ, zero, suc, if◌then◌else◌, Option, Some, None, refl, List}
use Rattle.its_text.specs.expr_text.Pieces as inner
use Rattle.its_text.specs.Pieces.{Piece, In}
use Rattle.its_text.specs.Lexing.{Mode, Outside, AtKeyword, Within, mode_behind, behind_keyword}
use Rattle.its_reader.specs.Tests as tests

-- outside sections an opening bracket leads to the keyword, and nothing else changes the mode
pub outside_behind : (p : Piece) → mode_behind Outside (Some p)
    ≡ (if tests.is_open_bracket p then AtKeyword else Outside)
outside_behind (In inner.Open) = refl
outside_behind (In _) = refl
outside_behind _ = refl

abbrev pub beside : Piece → Mode
beside p = if tests.is_open_bracket p then Within 1 else if tests.is_close_bracket p then Outside else Within 0

abbrev pub keyword_or : Piece → Option (List ℕ) → Mode
keyword_or p (Some w) = behind_keyword w
keyword_or p None = beside p

-- at the keyword a word decides the mode, and other pieces change it if they open or close a bracket
pub bracket_behind : (p : Piece) → mode_behind AtKeyword (Some p) ≡ keyword_or p (tests.word p)
bracket_behind (In (inner.Word w)) = refl
bracket_behind (In inner.Open) = refl
bracket_behind (In inner.Close) = refl
bracket_behind (In _) = refl
bracket_behind _ = refl

abbrev pub less : ℕ → Mode
less zero = Outside
less (suc d) = Within d

-- within a section the mode counts the brackets that are open, and ends where the last is closed
pub within_behind : (d : ℕ) (p : Piece) → mode_behind (Within d) (Some p)
    ≡ (if tests.is_open_bracket p then Within (suc d) else if tests.is_close_bracket p then less d else Within d)
within_behind d (In inner.Open) = refl
within_behind zero (In inner.Close) = refl
within_behind (suc d) (In inner.Close) = refl
within_behind zero (In _) = refl
within_behind (suc d) (In _) = refl
within_behind zero _ = refl
within_behind (suc d) _ = refl
