-- Grammars as data, and the texts that they derive.
use Rattle.std.specs.Prelude.{ℕ, List, [], ◌∷◌, ◌++◌, slice_index_or}
use Rattle.text_core.specs.Faults.{Among}
use Rattle.text_grammar.specs.declared.symbol.Symbol.{Symbol}
use Rattle.text_grammar.specs.declared.symbol.Symbol.TheVariants.{Piece, Made, Mark}
use Rattle.text_grammar.specs.declared.symbol.Item.{Item}
use Rattle.text_grammar.specs.declared.symbol.Item.TheVariants.{APiece, AMade, AMark, Or, End}

-- a grammar: the alternatives of each nonterminal, of which number 0 is the text; the number of classes, the class of
-- each piece and a sample piece of each class; and the number of rounds after which the rows of its table no longer
-- change
pub record Grammar (P : Type 0) : Type 0 where
  pub rules : List (List (List Symbol))
  pub classes : ℕ
  pub class_of : P → ℕ
  pub sample : ℕ → P
  pub rounds : ℕ

-- the events of a parse: a piece is read, or a mark (an action) is done
pub data Event (P : Type 0) : Type 0 where
  Read : P → Event P
  Did : ℕ → Event P

-- the alternatives of a nonterminal
abbrev pub alternatives : List (List (List Symbol)) → ℕ → List (List Symbol)
alternatives rules n = slice_index_or rules n []

module _ {P : Type 0} (g : Grammar P) where
  -- symbols derive events and pieces: the empty list derives none; a class derives one of its pieces, which is read; a
  -- mark derives no piece, and is done; and a nonterminal derives what one of its alternatives derives
  pub data Derives : List Symbol → List (Event P) → List P → Type 0 where
    nothing : Derives [] [] []
    piece : (p : P) {rest : List Symbol} {es : List (Event P)} {ps : List P} → Derives rest es ps
        → Derives (Piece (g.class_of p) ∷ rest) (Read p ∷ es) (p ∷ ps)
    mark : (m : ℕ) {rest : List Symbol} {es : List (Event P)} {ps : List P} → Derives rest es ps
        → Derives (Mark m ∷ rest) (Did m ∷ es) ps
    made : (n : ℕ) (body : List Symbol) {rest : List Symbol} {es : List (Event P)} {ps : List P}
        → Among body (alternatives g.rules n) → Derives (body ++ rest) es ps → Derives (Made n ∷ rest) es ps

-- the rules that items denote, after the alternatives and the symbols of the first rule that were already read
abbrev pub rules_behind : List (List Symbol) → List Symbol → List Item → List (List (List Symbol))
rules_behind bodies body [] = []
rules_behind bodies body (APiece c ∷ items) = rules_behind bodies (body ++ Piece c ∷ []) items
rules_behind bodies body (AMade n ∷ items) = rules_behind bodies (body ++ Made n ∷ []) items
rules_behind bodies body (AMark m ∷ items) = rules_behind bodies (body ++ Mark m ∷ []) items
rules_behind bodies body (Or ∷ items) = rules_behind (bodies ++ body ∷ []) [] items
rules_behind bodies body (End ∷ items) = (bodies ++ body ∷ []) ∷ rules_behind [] [] items

-- the rules that items spell: `Or` separates alternatives, and `End` closes each rule
abbrev pub rules_of : List Item → List (List (List Symbol))
rules_of items = rules_behind [] [] items
