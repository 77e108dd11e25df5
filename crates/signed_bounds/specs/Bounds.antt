-- Signed bounds: expressions over the start values with natural numbers as values.
use Rattle.std.specs.Prelude.{ℕ, zero, suc, ◌+◌, ◌*◌, ◌/◌, ◌^◌, max, min, nat_lt, if◌then◌else◌, List, ℤ, pos, negsuc}
use Rattle.poly_terms.specs.model.Polynomials.{Polynomial, polynomial_value}

-- a signed bound over the start values, and a list of parts
mutual
  pub data Signed : Type 0 where
    Constant : ℕ → Signed
    PositivePart : Polynomial → Signed
    SumOf : SignedParts → Signed
    ProductOf : SignedParts → Signed
    MaximumOf : SignedParts → Signed
    MinimumOf : Signed → SignedParts → Signed
    Quotient : Signed → ℕ → Signed
    Root : Signed → Signed
    PowerOf : ℕ → Signed → Signed

  pub data SignedParts : Type 0 where
    NoParts : SignedParts
    Part : Signed → SignedParts → SignedParts

-- the positive part of an integer: the integer itself, or 0 where it is negative
abbrev pub positive_part : ℤ → ℕ
positive_part (pos n) = n
positive_part (negsuc n) = 0

-- the greatest k up to m with k * k ≤ n
abbrev pub root_up_to : ℕ → ℕ → ℕ
root_up_to zero n = 0
root_up_to (suc m) n = if nat_lt n (suc m * suc m) then root_up_to m n else suc m

-- the whole square root of n: the greatest k with k * k ≤ n
abbrev pub whole_root : ℕ → ℕ
whole_root n = root_up_to n n

-- the value of a bound where start argument i has the value x[i]: quotients and roots are rounded down, a quotient by 0
-- is 0, an empty sum or maximum is 0, an empty product is 1, and a power with exponent 0 is 1
abbrev mutual
  pub signed_val : Signed → List ℤ → ℕ
  signed_val (Constant c) x = c
  signed_val (PositivePart p) x = positive_part (polynomial_value p x)
  signed_val (SumOf bs) x = signed_sum bs x
  signed_val (ProductOf bs) x = signed_product bs x
  signed_val (MaximumOf bs) x = signed_maximum bs x
  signed_val (MinimumOf b bs) x = signed_minimum bs (signed_val b x) x
  signed_val (Quotient b d) x = signed_val b x / d
  signed_val (Root b) x = whole_root (signed_val b x)
  signed_val (PowerOf c e) x = c ^ signed_val e x

  pub signed_sum : SignedParts → List ℤ → ℕ
  signed_sum NoParts x = 0
  signed_sum (Part b bs) x = signed_val b x + signed_sum bs x

  pub signed_product : SignedParts → List ℤ → ℕ
  signed_product NoParts x = 1
  signed_product (Part b bs) x = signed_val b x * signed_product bs x

  pub signed_maximum : SignedParts → List ℤ → ℕ
  signed_maximum NoParts x = 0
  signed_maximum (Part b bs) x = max (signed_val b x) (signed_maximum bs x)

  -- the minimum of a number and the values of the parts
  pub signed_minimum : SignedParts → ℕ → List ℤ → ℕ
  signed_minimum NoParts n x = n
  signed_minimum (Part b bs) n x = min (signed_val b x) (signed_minimum bs n x)
