-- Which texts are accepted, and which refusals are shown, stated by derivations only.
use Rattle.std.specs.Prelude.{◌≡◌, ℕ, List, [], ◌∷◌, ◌++◌, Some}
use Rattle.text_core.specs.Tokens.{Token, pieces}
use Rattle.text_core.specs.Readers.{Fault, onto, reached}
use Rattle.text_core.specs.Faults.{Among}
use Rattle.text_core.specs.Reading.{Parsed, answer}
use Rattle.text_grammar.specs.declared.symbol.Symbol.TheVariants.{Made}
use Rattle.text_grammar.specs.Grammars.{Event, Read, Did, Derives}
use Rattle.text_grammar.specs.Texts.{Text, ParserState, reader, IsSilent}

-- a tree is answered exactly if the text derives events whose fold is the tree, and no token has a fault
pub record ParsedWhereSilent {P T K : Type 0} (x : Text P T K) : Type 0 where
  pub stands : (n : ℕ) (ts : List (Token P)) (t : T) → answer (reader x) n ts ≡ Parsed t
      → (es : List (Event P)) × Derives x.grammar (Made 0 ∷ []) es (pieces ts) × (x.value es ≡ t) × IsSilent x [] es ts
  pub silent : (n : ℕ) (ts : List (Token P)) (es : List (Event P)) → Derives x.grammar (Made 0 ∷ []) es (pieces ts)
      → IsSilent x [] es ts → answer (reader x) n ts ≡ Parsed (x.value es)

-- the pieces that events read
abbrev pub read_in : {P : Type 0} → List (Event P) → List P
read_in [] = []
read_in (Read p ∷ es) = p ∷ read_in es
read_in (Did m ∷ es) = read_in es

-- y is a fault of the token t after the pieces `before`: the text derives these pieces, that of t and some more, and y
-- is among the faults of t after the events of the pieces before it
pub record IsFaultOf {P T K : Type 0} (x : Text P T K) (before : List P) (t : Token P) (y : Fault K) : Type 0 where
  pub events : List (Event P)
  pub later : List (Event P)
  pub more : List P
  pub reads : read_in events ≡ before
  pub derives : Derives x.grammar (Made 0 ∷ []) (events ++ Read t.piece ∷ later) (before ++ t.piece ∷ more)
  pub stands : Among y (x.faults (onto events []) t)

-- a refusal is shown at a token exactly if it is a fault of the token after the pieces that were read; at the end of a
-- text none is shown
pub record ShownWhereDerived {P T K : Type 0} (x : Text P T K) : Type 0 where
  pub shown : (n : ℕ) (done rest : List (Token P)) (f : ParserState P) (t : Token P) (y : Fault K)
      → reached (reader x) (pieces done) ≡ Some f → Among y ((reader x).shown n done f (t ∷ rest))
      → IsFaultOf x (onto (pieces done) []) t y
  pub stands : (n : ℕ) (done rest : List (Token P)) (t : Token P) (y : Fault K)
      → IsFaultOf x (onto (pieces done) []) t y
      → (f : ParserState P) × (reached (reader x) (pieces done) ≡ Some f) × Among y ((reader x).shown n done f (t ∷ rest))
  pub at_end : (n : ℕ) (done : List (Token P)) (f : ParserState P) → (reader x).shown n done f [] ≡ []
