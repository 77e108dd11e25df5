-- Texts that fold over their events, with at most one fault for each token.
use Rattle.std.specs.Prelude.{◌≡◌, ℕ, List, [], ◌∷◌, Option, Some, None, ⊤}
use Rattle.text_core.specs.Tokens.{Token}
use Rattle.text_core.specs.Readers.{Fault, onto}
use Rattle.text_grammar.specs.Grammars.{Grammar, Event, Read, Did}
use Rattle.text_grammar.specs.Texts.{Text}

-- a fold over events: the state before the first event, the state after a piece (`read`) and after a mark (`done`); the
-- kind and the position of the fault of a piece that can follow; the floor, before which no later fault is; the tree at
-- the end; the order of the kinds; and the kind of refusal for a text that breaks off (`stop_kind`)
pub record Fold (P S T K : Type 0) : Type 0 where
  pub begun : S
  pub read : P → S → S
  pub done : ℕ → S → S
  pub reported_fault : S → P → Option K
  pub position : S → Token P → ℕ
  pub floor : S → ℕ → ℕ
  pub tree : S → T
  pub number : K → ℕ
  pub stop_kind : Option P → K

-- the refusal of an optional kind at a position
abbrev pub refusals : {K : Type 0} → Option K → ℕ → List (Fault K)
refusals None at = []
refusals (Some kind) at = record { kind = kind; at = at } ∷ []

module _ {P S T K : Type 0} (f : Fold P S T K) where
  -- the state after events, the last one first
  abbrev pub state : List (Event P) → S
  state [] = f.begun
  state (Read p ∷ es) = f.read p (state es)
  state (Did m ∷ es) = f.done m (state es)

  -- the text of a grammar with this fold
  abbrev pub folded : Grammar P → Text P T K
  folded g = record {
    grammar = g;
    value = λ es. f.tree (state (onto es []));
    faults = λ es t. refusals (f.reported_fault (state es) t.piece) (f.position (state es) t);
    floor = λ es at. f.floor (state es) at;
    number = f.number;
    stop_kind = f.stop_kind;
  }

  -- the state after events, from state s
  abbrev pub after : S → List (Event P) → S
  after s [] = s
  after s (Did m ∷ es) = after (f.done m s) es
  after s (Read p ∷ es) = after (f.read p s) es

  -- reading the pieces of events from state s shows no fault
  abbrev pub Passes : S → List (Event P) → Type 0
  Passes s [] = ⊤
  Passes s (Did m ∷ es) = Passes (f.done m s) es
  Passes s (Read p ∷ es) = (f.reported_fault s p ≡ None) × Passes (f.read p s) es
