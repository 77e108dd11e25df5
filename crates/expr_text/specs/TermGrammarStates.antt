-- The part of an expression that has been read, as terms: brackets are gone, and variables are numbered.
use Rattle.std.specs.Prelude.{ℕ, zero, suc, min, ◌+◌, List, [], ◌∷◌, map, reverse, pos, Bool, true, false, not}
use Rattle.its_model.specs.model.Programs.{Name}
use Rattle.its_model.specs.model.Limits.{degree_limit, coefficient_limit}
use Rattle.its_model.specs.model.Terms.{Term, Literal, Variable, Negation, Addition, Subtraction, Multiplication}
use Rattle.its_model.specs.model.Terms.{Exponentiation}
use Rattle.expr_text.specs.Pieces.{Piece, Digits, Close, Plus, Minus, Times, Caret}
use Rattle.expr_text.specs.Terms.{number_of, sum_term, product_term, base_term}
use Rattle.expr_text.specs.GrammarStates as written
use Rattle.expr_text.specs.StateNames.{begins_expression}

-- an exponent over the limit on degrees is replaced by the limit plus one: an expression with either is refused with
-- the same fault
abbrev pub limited : Term → Term
limited (Literal z) = Literal z
limited (Variable i) = Variable i
limited (Negation e) = Negation (limited e)
limited (Addition d e) = Addition (limited d) (limited e)
limited (Subtraction d e) = Subtraction (limited d) (limited e)
limited (Multiplication d e) = Multiplication (limited d) (limited e)
limited (Exponentiation e n) = Exponentiation (limited e) (min n (degree_limit + 1))

-- the parts before a product, and before a factor
pub data Summed : Type 0 where
  NoSum : Summed
  PlusAfter : Term → Summed
  MinusAfter : Term → Summed

pub data Factored : Type 0 where
  NoProduct : Factored
  TimesAfter : Term → Factored

pub record Level : Type 0 where
  pub sum : Summed
  pub product : Factored
  pub minuses : ℕ

-- the part of an operand that was read last
pub data Operand : Type 0 where
  Wanted : Operand
  BaseRead : Term → Operand
  CaretRead : Term → Operand
  ExponentRead : Term → ℕ → Operand

-- the state of parsing: the parts before each open bracket, the innermost last; the parts before the operand; and the
-- operand
pub record GrammarState : Type 0 where
  pub outer : List Level
  pub level : Level
  pub operand : Operand

-- a written state as terms, with variables numbered by these names
module _ (names : List Name) where
  abbrev pub summed_terms : written.Summed → Summed
  summed_terms written.NoSum = NoSum
  summed_terms (written.PlusAfter s) = PlusAfter (limited (sum_term names s))
  summed_terms (written.MinusAfter s) = MinusAfter (limited (sum_term names s))

  abbrev pub factored_terms : written.Factored → Factored
  factored_terms written.NoProduct = NoProduct
  factored_terms (written.TimesAfter p) = TimesAfter (limited (product_term names p))

  abbrev pub level_terms : written.Level → Level
  level_terms l = record { sum = summed_terms l.sum; product = factored_terms l.product; minuses = l.minuses }

  abbrev pub operand_terms : written.Operand → Operand
  operand_terms written.Wanted = Wanted
  operand_terms (written.BaseRead b) = BaseRead (limited (base_term names b))
  operand_terms (written.CaretRead b) = CaretRead (limited (base_term names b))
  operand_terms (written.ExponentRead b digits) =
      ExponentRead (limited (base_term names b)) (min (number_of digits) (degree_limit + 1))

  abbrev pub terms_of_state : written.GrammarState → GrammarState
  terms_of_state f =
      record {
        outer = reverse (map level_terms f.outer);
        level = level_terms f.level;
        operand = operand_terms f.operand;
      }

-- a term after this many `-` signs
abbrev pub negated : ℕ → Term → Term
negated zero t = t
negated (suc n) t = negated n (Negation t)

-- the product that is complete with its last factor, and the sum that is complete with its last product
abbrev pub product_with : Factored → Term → Term
product_with NoProduct t = t
product_with (TimesAfter p) t = Multiplication p t

abbrev pub sum_with : Summed → Term → Term
sum_with NoSum t = t
sum_with (PlusAfter s) t = Addition s t
sum_with (MinusAfter s) t = Subtraction s t

-- the factor that a base, or a base with its exponent, is
abbrev pub factor_in : Operand → Term
factor_in Wanted = Literal (pos 0)
factor_in (BaseRead t) = t
factor_in (CaretRead t) = t
factor_in (ExponentRead t n) = Exponentiation t n

-- the product and the sum that are complete with their last operand
abbrev pub product_made : Level → Operand → Term
product_made l o = product_with l.product (negated l.minuses (factor_in o))

abbrev pub sum_made : Level → Operand → Term
sum_made l o = sum_with l.sum (product_made l o)

-- no part comes before an operand
abbrev pub empty_level : Level
empty_level = record { sum = NoSum; product = NoProduct; minuses = 0 }

-- the operand after a number: an exponent if it follows `^`, else a literal; a number over the limit on degrees, or on
-- coefficients, is replaced by the limit plus one
abbrev pub with_number : Operand → ℕ → Operand
with_number (CaretRead t) n = ExponentRead t (min n (degree_limit + 1))
with_number Wanted n = BaseRead (Literal (pos (min n (coefficient_limit + 1))))
with_number (BaseRead t) n = BaseRead (Literal (pos (min n (coefficient_limit + 1))))
with_number (ExponentRead t k) n = BaseRead (Literal (pos (min n (coefficient_limit + 1))))

-- the operand after digits; the operand after a `^`
abbrev pub with_digits : Operand → List ℕ → Operand
with_digits operand digits = with_number operand (number_of digits)

abbrev pub with_caret : Operand → Operand
with_caret (BaseRead t) = CaretRead t
with_caret Wanted = Wanted
with_caret (CaretRead t) = CaretRead t
with_caret (ExponentRead t n) = ExponentRead t n

-- a factor has been read
abbrev pub has_factor : Operand → Bool
has_factor Wanted = false
has_factor (BaseRead t) = true
has_factor (CaretRead t) = false
has_factor (ExponentRead t n) = true

-- a list is empty
abbrev pub is_empty : List Level → Bool
is_empty [] = true
is_empty (l ∷ levels) = false

-- a piece continues the expression after a factor; a piece continues it after any part of an operand
abbrev pub goes_on_behind : List Level → Piece → Bool
goes_on_behind outer Plus = true
goes_on_behind outer Minus = true
goes_on_behind outer Times = true
goes_on_behind outer Close = not (is_empty outer)
goes_on_behind outer _ = false

abbrev pub goes_on_from : List Level → Operand → Piece → Bool
goes_on_from outer Wanted p = begins_expression p
goes_on_from outer (BaseRead t) Caret = true
goes_on_from outer (BaseRead t) p = goes_on_behind outer p
goes_on_from outer (CaretRead t) (Digits digits) = true
goes_on_from outer (CaretRead t) _ = false
goes_on_from outer (ExponentRead t n) p = goes_on_behind outer p
