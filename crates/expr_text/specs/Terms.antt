-- The term of a written expression: numbered variables, and no brackets.
use Rattle.std.specs.Prelude.{ℕ, List, [], ◌∷◌, ◌++◌, pos, if◌then◌else◌}
use Rattle.std.specs.Str.Parse.{digits_value}
use Rattle.its_model.specs.model.Programs.{Name}
use Rattle.its_model.specs.model.Terms.{Term, Literal, Variable, Negation, Addition, Subtraction, Multiplication}
use Rattle.its_model.specs.model.Terms.{Exponentiation}
use Rattle.its_model.specs.text_core.Names.{is_among, position_of}
use Rattle.expr_text.specs.Trees.{Sum, Alone, Added, Subtracted, Product, Single, Multiplied, Factor, Plain, Raised}
use Rattle.expr_text.specs.Trees.{Negated, Base, Number, Named, Bracketed}

-- the number that digits write; they may have leading zeros
abbrev pub number_of : List ℕ → ℕ
number_of digits = digits_value 10 digits

-- names with one more, which is appended if it is new
abbrev pub with_name : List Name → Name → List Name
with_name names name = if is_among name names then names else names ++ name ∷ []

abbrev mutual
  -- the variables known once an expression is read, in order of first occurrence
  pub with_sum : List Name → Sum → List Name
  with_sum names (Alone p) = with_product names p
  with_sum names (Added s p) = with_product (with_sum names s) p
  with_sum names (Subtracted s p) = with_product (with_sum names s) p

  pub with_product : List Name → Product → List Name
  with_product names (Single f) = with_factor names f
  with_product names (Multiplied p f) = with_factor (with_product names p) f

  pub with_factor : List Name → Factor → List Name
  with_factor names (Plain b) = with_base names b
  with_factor names (Raised b digits) = with_base names b
  with_factor names (Negated f) = with_factor names f

  pub with_base : List Name → Base → List Name
  with_base names (Number digits) = names
  with_base names (Named name) = with_name names name
  with_base names (Bracketed s) = with_sum names s

abbrev mutual
  -- the expression, with its variables numbered by these names
  pub sum_term : List Name → Sum → Term
  sum_term names (Alone p) = product_term names p
  sum_term names (Added s p) = Addition (sum_term names s) (product_term names p)
  sum_term names (Subtracted s p) = Subtraction (sum_term names s) (product_term names p)

  pub product_term : List Name → Product → Term
  product_term names (Single f) = factor_term names f
  product_term names (Multiplied p f) = Multiplication (product_term names p) (factor_term names f)

  pub factor_term : List Name → Factor → Term
  factor_term names (Plain b) = base_term names b
  factor_term names (Raised b digits) = Exponentiation (base_term names b) (number_of digits)
  factor_term names (Negated f) = Negation (factor_term names f)

  pub base_term : List Name → Base → Term
  base_term names (Number digits) = Literal (pos (number_of digits))
  base_term names (Named name) = Variable (position_of name names)
  base_term names (Bracketed s) = sum_term names s
