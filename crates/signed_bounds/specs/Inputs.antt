-- Bounds over absolute values as signed bounds.
use Rattle.std.specs.Prelude.{◌≡◌, ℕ, [], ◌∷◌, ℤ, pos, negsuc, List}
use Rattle.poly_terms.specs.model.Polynomials.{Polynomial}
use Rattle.poly_terms.specs.model.Bounds as plain
use Rattle.poly_terms.specs.model.Bounds.{val}
use Rattle.poly_terms.specs.model.Runs.{sizes_of_start}
use Rattle.signed_bounds.specs.Bounds.{Signed, Constant, PositivePart, SumOf, ProductOf, MaximumOf, PowerOf, SignedParts}
use Rattle.signed_bounds.specs.Bounds.{NoParts, Part, signed_val}

-- an integer times a variable
abbrev pub multiple_of_variable : ℤ → ℕ → Polynomial
multiple_of_variable z i = record { coef = z; vars = i ∷ [] } ∷ []

-- the absolute value of start argument i: the maximum of the positive parts of the argument and of its opposite
abbrev pub absolute_value : ℕ → Signed
absolute_value i = MaximumOf
    (Part (PositivePart (multiple_of_variable (pos 1) i))
    (Part (PositivePart (multiple_of_variable (negsuc 0) i)) NoParts))

-- a bound over the absolute values of the start arguments as a signed bound
abbrev mutual
  pub signed_of_bound : plain.Bound → Signed
  signed_of_bound (plain.Constant c) = Constant c
  signed_of_bound (plain.Input i) = absolute_value i
  signed_of_bound (plain.SumOf bs) = SumOf (signed_of_parts bs)
  signed_of_bound (plain.ProductOf bs) = ProductOf (signed_of_parts bs)
  signed_of_bound (plain.MaximumOf bs) = MaximumOf (signed_of_parts bs)
  signed_of_bound (plain.PowerOf c e) = PowerOf c (signed_of_bound e)

  pub signed_of_parts : plain.Parts → SignedParts
  signed_of_parts plain.NoParts = NoParts
  signed_of_parts (plain.Part b bs) = Part (signed_of_bound b) (signed_of_parts bs)

-- a bound over absolute values keeps its value as a signed bound
pub record SignedBoundsKeepValues : Type 0 where
  pub each : (b : plain.Bound) (start : List ℤ) → signed_val (signed_of_bound b) start ≡ val b (sizes_of_start start)
