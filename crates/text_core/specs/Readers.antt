-- Readers: trees with the pieces that they are written as, and how the pieces of a text lead from one parser state
-- to the next.
use Rattle.std.specs.Prelude.{ℕ, List, [], ◌∷◌, Option, Some, None}
use Rattle.text_core.specs.Tokens.{Token}

-- a refusal of a kind, at a position
pub record Fault (K : Type 0) : Type 0 where
  pub kind : K
  pub at : ℕ

-- a reader of trees T that are written as pieces P: a parser state F describes what has been read so far,
-- and faults have kinds K
pub record Reader (P T F K : Type 0) : Type 1 where
  -- the tree is written as these pieces
  pub Writes : T → List P → Type 0
  -- nothing has been read
  pub beginning : F
  -- the parser state after a piece, if the piece can follow
  pub step : F → P → Option F
  -- the tree of a text that ends in this state, if it can end here
  pub finish : F → Option T
  -- of two kinds of faults at one position the one with the lesser number is reported
  pub number : K → ℕ
  -- the faults that a parser state shows in a text of this many bytes, given the tokens before it, the last one first,
  -- and the tokens after it
  pub shown : ℕ → List (Token P) → F → List (Token P) → List (Fault K)
  -- the kind of refusal for a text that breaks off in this state, before these tokens
  pub stop_kind : F → List (Token P) → K

-- the reversed first list, and then the second one
abbrev pub onto : {X : Type 0} → List X → List X → List X
onto [] rest = rest
onto (x ∷ done) rest = onto done (x ∷ rest)

-- the parser state after one more piece
abbrev pub next : {P F : Type 0} → (F → P → Option F) → Option F → P → Option F
next step None p = None
next step (Some f) p = step f p

-- the parser state after these pieces
abbrev pub walk : {P F : Type 0} → (F → P → Option F) → Option F → List P → Option F
walk step o [] = o
walk step None (p ∷ ps) = None
walk step (Some f) (p ∷ ps) = walk step (step f p) ps

module _ {P T F K : Type 0} (r : Reader P T F K) where
  -- the parser state after these pieces, of which the last one is first
  abbrev pub reached : List P → Option F
  reached [] = Some r.beginning
  reached (p ∷ done) = next r.step (reached done) p

  -- these pieces begin some text
  abbrev pub IsBeginning : List P → Type 0
  IsBeginning done = (t : T) × (more : List P) × r.Writes t (onto done more)

  -- these pieces are the whole text of some tree
  abbrev pub IsWhole : List P → Type 0
  IsWhole done = (t : T) × r.Writes t (onto done [])

  -- a text that begins with `done` breaks off here: `done` begins some text, but the next piece can't follow, or the
  -- text ends too early
  abbrev pub BreaksOff : List P → List P → Type 0
  BreaksOff done [] = IsBeginning done × ¬ IsWhole done
  BreaksOff done (p ∷ rest) = IsBeginning done × ¬ IsBeginning (p ∷ done)
