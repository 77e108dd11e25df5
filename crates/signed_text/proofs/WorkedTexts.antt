-- The texts of small bounds.
use Rattle.std.proofs.Common.{◌≡◌, ℕ, List, refl, ap, get_or, arith}
use Rattle.std.specs.Fmt.{digits}
use Rattle.std.specs.Prelude.{codes}
use Rattle.signed_bounds.specs.Bounds.{Constant, Quotient}
use Rattle.signed_text.specs.Polynomials.{polynomial_text}
use Rattle.signed_text.specs.Texts.{signed_text}
use Rattle.signed_text.specs.Worked.{PolynomialsAreWorkedOut, BoundsAreWorkedOut, TextsAreWorkedOut, names_x_y_n}
use Rattle.signed_text.specs.Worked.{y_less_x}

-- what is added comes first
other_order : polynomial_text names_x_y_n y_less_x ≡ codes "x - y" → ⊥
other_order e = let letter : 121 ≡ 120 = ap (λ (w : List ℕ). get_or w 0 0) e in omega (arith, letter)

-- a quotient isn't turned
other_quotient : signed_text names_x_y_n (Quotient (Constant 7) 2) ≡ signed_text names_x_y_n (Quotient (Constant 2) 7)
    → ⊥
unfolding digits
other_quotient e = let digit : 55 ≡ 50 = ap (λ (w : List ℕ). get_or w 1 0) e in omega (arith, digit)

polynomials : PolynomialsAreWorkedOut
unfolding digits
polynomials = record {
  difference = refl;
  opposite = refl;
  squares = refl;
  products = refl;
  with_number = refl;
  less_number = refl;
  one_alone = refl;
  minus_one = refl;
  nothing = refl;
  no_name = refl;
  order = other_order;
}

bounds : BoundsAreWorkedOut
unfolding digits
bounds = record {
  constant = refl;
  part = refl;
  sum = refl;
  product = refl;
  factors = refl;
  maximum = refl;
  minimum = refl;
  only_minimum = refl;
  quotient = refl;
  root = refl;
  power = refl;
  no_sum = refl;
  no_product = refl;
  no_maximum = refl;
  in_sum = refl;
  reversed = other_quotient;
}

pub worked_texts : TextsAreWorkedOut
worked_texts = record { polynomials = polynomials; bounds = bounds }
