-- Expressions as they are written: brackets are kept, and operators that bind tighter are deeper in the tree.
use Rattle.std.specs.Prelude.{ℕ, List, ◌∷◌}
use Rattle.its_model.specs.model.Programs.{Name}
use Rattle.expr_text.specs.Pieces.{Piece, Word, Digits, Open, Close, Plus, Minus, Times, Caret}

mutual
  -- products that are added and subtracted, from the left
  pub data Sum : Type 0 where
    Alone : Product → Sum
    Added : Sum → Product → Sum
    Subtracted : Sum → Product → Sum

  -- factors that are multiplied, from the left
  pub data Product : Type 0 where
    Single : Factor → Product
    Multiplied : Product → Factor → Product

  -- a base, a base with an exponent, or a factor after a `-`
  pub data Factor : Type 0 where
    Plain : Base → Factor
    Raised : Base → List ℕ → Factor
    Negated : Factor → Factor

  -- a numeral, a name, or an expression in brackets
  pub data Base : Type 0 where
    Number : List ℕ → Base
    Named : Name → Base
    Bracketed : Sum → Base

-- an expression among the pieces of a larger text: `into` maps each of its pieces to one of the larger text
module _ {P : Type 0} (into : Piece → P) where
  abbrev mutual
    -- the pieces of an expression, appended to those before them, the last one first
    pub sum_behind : Sum → List P → List P
    sum_behind (Alone p) before = product_behind p before
    sum_behind (Added s p) before = product_behind p (into Plus ∷ sum_behind s before)
    sum_behind (Subtracted s p) before = product_behind p (into Minus ∷ sum_behind s before)

    -- the pieces of a product, appended to those before them, the last one first
    pub product_behind : Product → List P → List P
    product_behind (Single f) before = factor_behind f before
    product_behind (Multiplied p f) before = factor_behind f (into Times ∷ product_behind p before)

    -- the pieces of a factor, appended to those before them, the last one first
    pub factor_behind : Factor → List P → List P
    factor_behind (Plain b) before = base_behind b before
    factor_behind (Raised b digits) before = into (Digits digits) ∷ into Caret ∷ base_behind b before
    factor_behind (Negated f) before = factor_behind f (into Minus ∷ before)

    -- the pieces of a base, appended to those before them, the last one first
    pub base_behind : Base → List P → List P
    base_behind (Number digits) before = into (Digits digits) ∷ before
    base_behind (Named name) before = into (Word name) ∷ before
    base_behind (Bracketed s) before = into Close ∷ sum_behind s (into Open ∷ before)
