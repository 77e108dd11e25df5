-- Worked values of the effects of single signs on an expression that is being read.
use Rattle.std.specs.Prelude.{◌≡◌, ◌-◌, ◌^◌, pos, codes}
use Rattle.model.specs.Terms.{Literal, Variable, Addition, Multiplication, Negation}
use Rattle.expr_text.specs.TermGrammarStates.{Level, Wanted, BaseRead, CaretRead, ExponentRead, PlusAfter, MinusAfter}
use Rattle.expr_text.specs.TermGrammarStates.{NoProduct, TimesAfter, with_number, with_digits, with_caret}
use Rattle.expr_reader.specs.StateSteps.{behind_plus, behind_minus, behind_times}

-- the parts before an operand: the variable numbered 1 and `+`, the variable numbered 0 and `*`, and one `-`
abbrev pub within : Level
within = record { sum = PlusAfter (Variable 1); product = TimesAfter (Variable 0); minuses = 1 }

-- the effects of numbers as exponents and as literals, up to the limits and beyond
pub record NumbersAreWorkedOut : Type 0 where
  pub exponent : with_number (CaretRead (Variable 0)) 8 ≡ ExponentRead (Variable 0) 8
  pub ninth : with_number (CaretRead (Variable 0)) 9 ≡ ExponentRead (Variable 0) 9
  pub beyond : with_number (CaretRead (Variable 0)) 10 ≡ ExponentRead (Variable 0) 9
  pub literal : with_number Wanted 10 ≡ BaseRead (Literal (pos 10))
  pub greatest : with_number Wanted (2 ^ 63 - 1) ≡ BaseRead (Literal (pos (2 ^ 63 - 1)))
  pub too_great : with_number Wanted (2 ^ 64) ≡ BaseRead (Literal (pos (2 ^ 63)))
  -- after a base, and after an exponent, a number is a literal too
  pub behind_base : with_number (BaseRead (Variable 0)) 2 ≡ BaseRead (Literal (pos 2))
  pub behind_exponent : with_number (ExponentRead (Variable 0) 3) 2 ≡ BaseRead (Literal (pos 2))
  -- digits have the effect of the number that they write
  pub digits : with_digits (CaretRead (Variable 0)) (codes "07") ≡ ExponentRead (Variable 0) 7
  -- a `^` has an effect only after a base
  pub caret : with_caret (BaseRead (Variable 0)) ≡ CaretRead (Variable 0)
  pub caret_twice : with_caret (CaretRead (Variable 0)) ≡ CaretRead (Variable 0)
  pub caret_first : with_caret Wanted ≡ Wanted

-- the effects of signs after the variable numbered 2 within a product
pub record SignsAreWorkedOut : Type 0 where
  pub plus : behind_plus within (BaseRead (Variable 2)) ≡ record {
    sum = PlusAfter (Addition (Variable 1) (Multiplication (Variable 0) (Negation (Variable 2))));
    product = NoProduct;
    minuses = 0;
  }
  pub minus : behind_minus within (BaseRead (Variable 2)) ≡ record {
    sum = MinusAfter (Addition (Variable 1) (Multiplication (Variable 0) (Negation (Variable 2))));
    product = NoProduct;
    minuses = 0;
  }
  -- a product continues within its sum
  pub times : behind_times within (BaseRead (Variable 2)) ≡ record {
    sum = PlusAfter (Variable 1);
    product = TimesAfter (Multiplication (Variable 0) (Negation (Variable 2)));
    minuses = 0;
  }
  -- before the operand a `-` negates it once more
  pub minus_first : behind_minus within Wanted ≡ record {
    sum = PlusAfter (Variable 1);
    product = TimesAfter (Variable 0);
    minuses = 2;
  }
