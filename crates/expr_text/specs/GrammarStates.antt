-- The state of parsing an expression.
use Rattle.std.specs.Prelude.{ℕ, zero, suc, List, [], ◌∷◌}
use Rattle.expr_text.specs.Pieces.{Piece, Digits, Open, Plus, Minus, Times, Caret}
use Rattle.expr_text.specs.Trees.{Sum, Alone, Added, Subtracted, Product, Single, Multiplied, Factor, Negated, Base}
use Rattle.expr_text.specs.Trees.{sum_behind, product_behind, base_behind}

-- the part before a product inside its brackets: nothing, or a sum and its operator
pub data Summed : Type 0 where
  NoSum : Summed
  PlusAfter : Sum → Summed
  MinusAfter : Sum → Summed

-- the part before a factor in its product: nothing, or a product and a `*`
pub data Factored : Type 0 where
  NoProduct : Factored
  TimesAfter : Product → Factored

-- the parts before an operand inside its brackets: a sum, a product, and a number of `-`
pub record Level : Type 0 where
  pub sum : Summed
  pub product : Factored
  pub minuses : ℕ

-- the part of an operand that was read last: nothing, a base, its `^`, or its exponent
pub data Operand : Type 0 where
  Wanted : Operand
  BaseRead : Base → Operand
  CaretRead : Base → Operand
  ExponentRead : Base → List ℕ → Operand

-- the state of parsing an expression: the parts before each open bracket, the innermost first; the parts before the
-- operand; and the part of the operand that was read last
pub record GrammarState : Type 0 where
  pub outer : List Level
  pub level : Level
  pub operand : Operand

-- no part comes before an operand
abbrev pub empty_level : Level
empty_level = record { sum = NoSum; product = NoProduct; minuses = 0 }

-- nothing has been read
abbrev pub beginning : GrammarState
beginning = record { outer = []; level = empty_level; operand = Wanted }

-- the pieces of each part of a state, appended to those before it, the last one first
module _ {P : Type 0} (into : Piece → P) where
  abbrev pub summed_behind : Summed → List P → List P
  summed_behind NoSum before = before
  summed_behind (PlusAfter s) before = into Plus ∷ sum_behind into s before
  summed_behind (MinusAfter s) before = into Minus ∷ sum_behind into s before

  abbrev pub factored_behind : Factored → List P → List P
  factored_behind NoProduct before = before
  factored_behind (TimesAfter p) before = into Times ∷ product_behind into p before

  abbrev pub minuses_behind : ℕ → List P → List P
  minuses_behind zero before = before
  minuses_behind (suc n) before = into Minus ∷ minuses_behind n before

  abbrev pub level_behind : Level → List P → List P
  level_behind l before = minuses_behind l.minuses (factored_behind l.product (summed_behind l.sum before))

  abbrev pub outer_behind : List Level → List P → List P
  outer_behind [] before = before
  outer_behind (l ∷ outer) before = into Open ∷ level_behind l (outer_behind outer before)

  abbrev pub operand_behind : Operand → List P → List P
  operand_behind Wanted before = before
  operand_behind (BaseRead b) before = base_behind into b before
  operand_behind (CaretRead b) before = into Caret ∷ base_behind into b before
  operand_behind (ExponentRead b digits) before = into (Digits digits) ∷ into Caret ∷ base_behind into b before

  abbrev pub behind_state : GrammarState → List P → List P
  behind_state f before = operand_behind f.operand (level_behind f.level (outer_behind f.outer before))

-- a factor after this many `-` signs
abbrev pub negated : ℕ → Factor → Factor
negated zero f = f
negated (suc n) f = negated n (Negated f)

-- the product that is complete with its last factor
abbrev pub product_with : Factored → Factor → Product
product_with NoProduct f = Single f
product_with (TimesAfter p) f = Multiplied p f

-- the sum that is complete with its last product
abbrev pub sum_with : Summed → Product → Sum
sum_with NoSum p = Alone p
sum_with (PlusAfter s) p = Added s p
sum_with (MinusAfter s) p = Subtracted s p

-- the sum that is complete with the last factor of its last product
abbrev pub product_made : Level → Factor → Product
product_made l f = product_with l.product (negated l.minuses f)

abbrev pub sum_made : Level → Factor → Sum
sum_made l f = sum_with l.sum (product_made l f)
