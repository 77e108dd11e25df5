-- The alternatives of one nonterminal, as items spell them.
use Rattle.std.specs.Prelude.{List, [], ◌∷◌}
use Rattle.text_grammar.specs.declared.symbol.Symbol.{Symbol}
use Rattle.text_grammar.specs.declared.symbol.Symbol.TheVariants.{Piece, Made, Mark}
use Rattle.text_grammar.specs.declared.symbol.Item.{Item}
use Rattle.text_grammar.specs.declared.symbol.Item.TheVariants.{APiece, AMade, AMark, Or, End}

-- the body at the front of these items: all items before the first `Or` or `End`, or all if there is none
abbrev pub body_of : List Item → List Symbol
body_of [] = []
body_of (APiece c ∷ items) = Piece c ∷ body_of items
body_of (AMade n ∷ items) = Made n ∷ body_of items
body_of (AMark m ∷ items) = Mark m ∷ body_of items
body_of (Or ∷ items) = []
body_of (End ∷ items) = []

-- the bodies after the first one, up to an `End`
abbrev pub others_of : List Item → List (List Symbol)
others_of [] = []
others_of (APiece c ∷ items) = others_of items
others_of (AMade n ∷ items) = others_of items
others_of (AMark m ∷ items) = others_of items
others_of (Or ∷ items) = body_of items ∷ others_of items
others_of (End ∷ items) = []

-- the alternatives at the front of these items
abbrev pub alternatives_of : List Item → List (List Symbol)
alternatives_of items = body_of items ∷ others_of items
