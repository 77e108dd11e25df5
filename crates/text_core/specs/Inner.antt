-- A reader inside another one: part of the outer text is a text of the inner reader.
use Rattle.std.specs.Prelude.{◌≡◌, ℕ, List, [], ◌∷◌, ◌++◌, map, Option, Some, None}
use Rattle.text_core.specs.Tokens.{Token}
use Rattle.text_core.specs.Readers.{Reader, reached}

-- how an inner text is embedded: `into` gives the outer piece of an inner one, `inner_of` the inner piece of an outer
-- one, if it is one; `inside` gives the outer state for what is known of the text before and for an inner state;
-- `behind` gives the outer state after the inner tree and the first piece after it
pub record Inside (P T F Q G C : Type 0) : Type 0 where
  pub into : P → Q
  pub inner_of : Q → Option P
  pub inside : C → F → G
  pub behind : C → T → Q → Option G

-- each outer piece with an inner one is the outer piece of that one
pub record IsInto {P T F Q G C : Type 0} (i : Inside P T F Q G C) : Type 0 where
  pub there : (p : P) → i.inner_of (i.into p) ≡ Some p
  pub back : (q : Q) (p : P) → i.inner_of q ≡ Some p → i.into p ≡ q

module _ {P T F K Q G C : Type 0} (r : Reader P T F K) (i : Inside P T F Q G C) where
  -- the inner state after an outer piece, if this is an inner piece that can follow
  abbrev pub inner_step : F → Option P → Option F
  inner_step f None = None
  inner_step f (Some p) = r.step f p

  -- the outer state after a piece that follows the inner text, if the inner text can end here
  abbrev pub step_behind : C → Option T → Q → Option G
  step_behind c None q = None
  step_behind c (Some t) q = i.behind c t q

  -- the outer state after a piece: inside, if the inner reader accepts the piece; else the inner text ends before the
  -- piece
  abbrev pub step_by : C → F → Option F → Q → Option G
  step_by c f (Some g) q = Some (i.inside c g)
  step_by c f None q = step_behind c (r.finish f) q

  -- the outer state after a piece, from a state inside
  abbrev pub step_inside : C → F → Q → Option G
  step_inside c f q = step_by c f (inner_step f (i.inner_of q)) q

  -- the outer reader is inside: the pieces since the inner text began, after those in `before`, lead the inner reader
  -- to f
  pub record IsInside (before done : List Q) (f : F) : Type 0 where
    pub inner : List P
    pub pieces : done ≡ map i.into inner ++ before
    pub led : reached r inner ≡ Some f

  -- a token before the inner tokens of others; a token that isn't inner ends them
  abbrev pub inner_then : Option P → Token Q → List (Token P) → List (Token P)
  inner_then None t ts = []
  inner_then (Some p) t ts = record { piece = p; at = t.at; upto = t.upto } ∷ ts

  -- the longest prefix of inner tokens
  abbrev pub inner_tokens : List (Token Q) → List (Token P)
  inner_tokens [] = []
  inner_tokens (t ∷ ts) = inner_then (i.inner_of t.piece) t (inner_tokens ts)

  -- the position at which the inner tokens end: that of the first token that isn't inner, or the end of the text
  abbrev pub end_by : Option P → ℕ → ℕ → ℕ
  end_by None at end = at
  end_by (Some p) at end = end

  abbrev pub inner_end : ℕ → List (Token Q) → ℕ
  inner_end n [] = n
  inner_end n (t ∷ ts) = end_by (i.inner_of t.piece) t.at (inner_end n ts)
