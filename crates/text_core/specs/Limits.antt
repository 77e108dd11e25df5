-- Limits on trees, decided from parser states.
use Rattle.std.specs.Prelude.{◌≡◌, ℕ, List, [], ◌∷◌, Some}
use Rattle.text_core.specs.Tokens.{Token, pieces}
use Rattle.text_core.specs.Readers.{Reader, reached}

module _ {P T F K : Type 0} (r : Reader P T F K) where
  -- a parser state shows no fault
  abbrev pub ShowsNothing : ℕ → List (Token P) → F → List (Token P) → Type 0
  ShowsNothing n done f rest = r.shown n done f rest ≡ []

  -- an invariant of parser states and the pieces that follow them that is preserved along texts that show no fault, and
  -- that implies at the end that the tree is within the limits
  pub record KeepsLimits (Within : T → Type 0) (Kept : F → List P → Type 0) : Type 0 where
    pub begins : (ps : List P) → Kept r.beginning ps
    pub goes_on : (n : ℕ) (done : List (Token P)) (f g : F) (t : Token P) (rest : List (Token P))
        → reached r (pieces done) ≡ Some f → Kept f (t.piece ∷ pieces rest)
        → ShowsNothing n done f (t ∷ rest) → r.step f t.piece ≡ Some g → Kept g (pieces rest)
    pub ends : (done : List P) (f : F) (t : T) → reached r done ≡ Some f → Kept f [] → r.finish f ≡ Some t → Within t

  -- an invariant of parser states and the pieces that follow them that is preserved along the text of a tree within the
  -- limits, and that implies that no fault is shown
  pub record ShowsNoLimit (Within : T → Type 0) (Small : F → List P → Type 0) : Type 0 where
    pub ends : (done : List P) (f : F) (t : T) → reached r done ≡ Some f → r.finish f ≡ Some t → Within t → Small f []
    pub goes_back : (done : List P) (f g : F) (p : P) (ps : List P) → reached r done ≡ Some f → r.step f p ≡ Some g
        → Small g ps → Small f (p ∷ ps)
    pub nothing : (n : ℕ) (done : List (Token P)) (f : F) (rest : List (Token P)) → reached r (pieces done) ≡ Some f
        → Small f (pieces rest) → ShowsNothing n done f rest
