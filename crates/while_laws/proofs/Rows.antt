-- The tokens of written expressions in order.
use Rattle.std.proofs.Common.{◌≡◌, List, [], ◌∷◌, ◌++◌, Option, Some, refl, ap, sym, ◌∙◌, append_assoc}
use Rattle.std.proofs.Common.{append-nil}
use Rattle.text_core.specs.Readers.{onto}
use Rattle.expr_text.specs.Pieces.{Piece, Word, Digits, Open, Close, Plus, Minus, Times, Caret}
use Rattle.expr_text.specs.Trees.{Sum, Alone, Added, Subtracted, Product, Single, Multiplied, Factor, Plain, Raised}
use Rattle.expr_text.specs.Trees.{Negated, Base, Number, Named, Bracketed, sum_behind, product_behind, factor_behind}
use Rattle.expr_text.specs.Trees.{base_behind}

-- The tokens of an expression, of a product, of a factor and of a base, first to last.
abbrev mutual
  pub sum_row : Sum → List (Option Piece)
  sum_row (Alone p) = product_row p
  sum_row (Added s p) = sum_row s ++ Some Plus ∷ product_row p
  sum_row (Subtracted s p) = sum_row s ++ Some Minus ∷ product_row p

  pub product_row : Product → List (Option Piece)
  product_row (Single f) = factor_row f
  product_row (Multiplied p f) = product_row p ++ Some Times ∷ factor_row f

  pub factor_row : Factor → List (Option Piece)
  factor_row (Plain b) = base_row b
  factor_row (Raised b digits) = base_row b ++ Some Caret ∷ Some (Digits digits) ∷ []
  factor_row (Negated f) = Some Minus ∷ factor_row f

  pub base_row : Base → List (Option Piece)
  base_row (Number digits) = Some (Digits digits) ∷ []
  base_row (Named name) = Some (Word name) ∷ []
  base_row (Bracketed s) = Some Open ∷ (sum_row s ++ Some Close ∷ [])

mutual
  -- The tokens in order are the reverse of the list in which the last one comes first.
  sum_in_order : (s : Sum) (before rest : List (Option Piece))
      → onto (sum_behind Some s before) rest ≡ onto before (sum_row s ++ rest)
  sum_in_order (Alone p) before rest = product_in_order p before rest
  sum_in_order (Added s p) before rest =
      product_in_order p (Some Plus ∷ sum_behind Some s before) rest
      ∙ sum_in_order s before (Some Plus ∷ (product_row p ++ rest))
      ∙ ap (onto before) (sym (append_assoc (sum_row s) (Some Plus ∷ product_row p) rest))
  sum_in_order (Subtracted s p) before rest =
      product_in_order p (Some Minus ∷ sum_behind Some s before) rest
      ∙ sum_in_order s before (Some Minus ∷ (product_row p ++ rest))
      ∙ ap (onto before) (sym (append_assoc (sum_row s) (Some Minus ∷ product_row p) rest))

  product_in_order : (p : Product) (before rest : List (Option Piece))
      → onto (product_behind Some p before) rest ≡ onto before (product_row p ++ rest)
  product_in_order (Single f) before rest = factor_in_order f before rest
  product_in_order (Multiplied p f) before rest =
      factor_in_order f (Some Times ∷ product_behind Some p before) rest
      ∙ product_in_order p before (Some Times ∷ (factor_row f ++ rest))
      ∙ ap (onto before) (sym (append_assoc (product_row p) (Some Times ∷ factor_row f) rest))

  factor_in_order : (f : Factor) (before rest : List (Option Piece))
      → onto (factor_behind Some f before) rest ≡ onto before (factor_row f ++ rest)
  factor_in_order (Plain b) before rest = base_in_order b before rest
  factor_in_order (Raised b digits) before rest =
      base_in_order b before (Some Caret ∷ Some (Digits digits) ∷ rest)
      ∙ ap (onto before) (sym (append_assoc (base_row b) (Some Caret ∷ Some (Digits digits) ∷ []) rest))
  factor_in_order (Negated f) before rest = factor_in_order f (Some Minus ∷ before) rest

  base_in_order : (b : Base) (before rest : List (Option Piece))
      → onto (base_behind Some b before) rest ≡ onto before (base_row b ++ rest)
  base_in_order (Number digits) before rest = refl
  base_in_order (Named name) before rest = refl
  base_in_order (Bracketed s) before rest =
      sum_in_order s (Some Open ∷ before) (Some Close ∷ rest)
      ∙ ap (λ (xs : List (Option Piece)). onto before (Some Open ∷ xs))
      (sym (append_assoc (sum_row s) (Some Close ∷ []) rest))

-- The tokens of an expression in order.
pub sum_pieces : (s : Sum) → onto (sum_behind Some s []) [] ≡ sum_row s
sum_pieces s = sum_in_order s [] [] ∙ append-nil (sum_row s)
