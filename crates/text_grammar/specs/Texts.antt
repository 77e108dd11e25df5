-- Texts of a grammar: the trees of their events, the faults of their tokens, and how they are read.
use Rattle.std.specs.Prelude.{◌≡◌, ℕ, ◌≤◌, ◌<◌, IsTrue, List, [], ◌∷◌, Option, Some, None, ⊤}
use Rattle.text_core.specs.Tokens.{Token}
use Rattle.text_core.specs.Readers.{Fault, Reader, onto}
use Rattle.text_core.specs.Faults.{Among}
use Rattle.text_core.specs.Reading.{first_among}
use Rattle.text_grammar.specs.declared.symbol.Symbol.{Symbol}
use Rattle.text_grammar.specs.declared.symbol.Symbol.TheVariants.{Made}
use Rattle.text_grammar.specs.Grammars.{Grammar, Event, Read, Did, Derives}
use Rattle.text_grammar.specs.Leads.{Lead, Matches, Passes, Stuck, lead, row_of}
use Rattle.text_grammar.specs.Sounding.{is_readable}

-- texts of pieces P that denote trees T and are refused with kinds K
pub record Text (P T K : Type 0) : Type 0 where
  pub grammar : Grammar P
  -- the tree that events denote
  pub value : List (Event P) → T
  -- the faults of a token that can follow the events, given with the last one first
  pub faults : List (Event P) → Token P → List (Fault K)
  -- after these events, the last one first, no fault is shown before this position, if the next token is at the given
  -- one
  pub floor : List (Event P) → ℕ → ℕ
  -- of two kinds at one position the one with the lesser number is reported
  pub number : K → ℕ
  -- the kind of refusal for this piece, which can't follow, or for a text that ends too early
  pub stop_kind : Option P → K

-- the parser state: the events so far, the last one first, and the symbols that are expected
pub record ParserState (P : Type 0) : Type 0 where
  pub events : List (Event P)
  pub expected : List Symbol

-- events, and then marks that are done, the last one first
abbrev pub did : {P : Type 0} → List (Event P) → List ℕ → List (Event P)
did es [] = es
did es (m ∷ ms) = did (Did m ∷ es) ms

-- marks that are done, and then events
abbrev pub marked : {P : Type 0} → List ℕ → List (Event P) → List (Event P)
marked [] es = es
marked (m ∷ ms) es = Did m ∷ marked ms es

-- the parser state after a piece that has this lead
abbrev pub stepped : {P : Type 0} → List (Event P) → P → Lead → Option (ParserState P)
stepped es p (Matches ms rest) = Some (record { events = Read p ∷ did es ms; expected = rest })
stepped es p (Passes ms) = None
stepped es p Stuck = None

-- the first piece of tokens
abbrev pub first_piece : {P : Type 0} → List (Token P) → Option P
first_piece [] = None
first_piece (t ∷ ts) = Some t.piece

module _ {P T K : Type 0} (x : Text P T K) where
  -- the lead of the expected symbols at a piece
  abbrev pub lead_at : ParserState P → P → Lead
  lead_at f p = lead (x.grammar.class_of p) (row_of x.grammar (x.grammar.class_of p)) f.expected

  -- the tree of a text that ends here, if the lead passes
  abbrev pub ended_by : List (Event P) → Lead → Option T
  ended_by es (Passes ms) = Some (x.value (onto (did es ms) []))
  ended_by es (Matches ms rest) = None
  ended_by es Stuck = None

  -- the faults of a token with this lead
  abbrev pub shown_by : List (Event P) → Token P → Lead → List (Fault K)
  shown_by es t (Matches ms rest) = x.faults (did es ms) t
  shown_by es t (Passes ms) = []
  shown_by es t Stuck = []

  abbrev pub shown_next : ParserState P → List (Token P) → List (Fault K)
  shown_next f [] = []
  shown_next f (t ∷ rest) = shown_by f.events t (lead_at f t.piece)

  -- the tree is written as these pieces: the text derives them with events that denote the tree
  abbrev pub Writes : T → List P → Type 0
  Writes tree ps = (es : List (Event P)) × Derives x.grammar (Made 0 ∷ []) es ps × (x.value es ≡ tree)

  -- the reader of the texts
  abbrev pub reader : Reader P T (ParserState P) K
  reader = record {
    Writes = Writes;
    beginning = record { events = []; expected = Made 0 ∷ [] };
    step = λ f p. stepped f.events p (lead_at f p);
    finish = λ f. ended_by f.events (lead x.grammar.classes (row_of x.grammar x.grammar.classes) f.expected);
    number = x.number;
    shown = λ n done f rest. shown_next f rest;
    stop_kind = λ f rest. x.stop_kind (first_piece rest);
  }

  -- a text is lawful: its grammar can be parsed, each piece has one of the classes, different kinds have different
  -- numbers, and the floor is right: it isn't after the next token, no fault is shown before it, and it never decreases
  pub record IsLawful : Type 0 where
    pub readable : IsTrue (is_readable x.grammar)
    pub classed : (p : P) → x.grammar.class_of p < x.grammar.classes
    pub differ : (a b : K) → x.number a ≡ x.number b → a ≡ b
    pub floor_next : (es : List (Event P)) (at : ℕ) → x.floor es at ≤ at
    pub floor_shown : (es : List (Event P)) (t : Token P) (y : Fault K) → Among y (x.faults es t)
        → x.floor es t.at ≤ y.at
    pub floor_did : (es : List (Event P)) (m at : ℕ) → x.floor es at ≤ x.floor (Did m ∷ es) at
    pub floor_read : (es : List (Event P)) (t : Token P) (at : ℕ) → t.at < t.upto → t.upto ≤ at
        → x.floor es t.at ≤ x.floor (Read t.piece ∷ es) at

  -- the tokens of these events have no fault, after other events, which are given with the last one first
  abbrev pub IsSilent : List (Event P) → List (Event P) → List (Token P) → Type 0
  IsSilent before [] ts = ⊤
  IsSilent before (Did m ∷ es) ts = IsSilent (Did m ∷ before) es ts
  IsSilent before (Read p ∷ es) [] = ⊤
  IsSilent before (Read p ∷ es) (t ∷ ts) = (x.faults before t ≡ []) × IsSilent (Read p ∷ before) es ts

  -- the first of an optional refusal so far and others
  abbrev pub first_shown : Option (Fault K) → List (Fault K) → Option (Fault K)
  first_shown best shown = first_among reader best shown
