-- Affine expressions, and those that have one value everywhere.
use Rattle.std.specs.Prelude.{◌≡◌, ℕ, zero, suc, Bool, true, false, ◌&&◌, ◌||◌, nat_lt, replicate, slice_set, List, ℤ, pos}
use Rattle.std.specs.Prelude.{negsuc, ◌≤ℤ◌, Option, Some, None}
use Rattle.std.specs.Ordering.{int_eq}
use Rattle.poly_terms.specs.model.Terms.{Term, Literal, Variable, Negation, Addition, Subtraction, Multiplication}
use Rattle.poly_terms.specs.model.Terms.{Exponentiation, value}
use Rattle.poly_terms.specs.Checked.{value_within}

-- whether an expression is a literal
abbrev pub is_literal : Term → Bool
is_literal (Literal z) = true
is_literal _ = false

-- whether an expression is affine over the first n variables, as it is written: of each product one factor is a literal,
-- and there is no power
abbrev pub is_affine : ℕ → Term → Bool
is_affine n (Literal z) = true
is_affine n (Variable i) = nat_lt i n
is_affine n (Negation e) = is_affine n e
is_affine n (Addition d e) = is_affine n d && is_affine n e
is_affine n (Subtraction d e) = is_affine n d && is_affine n e
is_affine n (Multiplication d e) = (is_literal d && is_affine n e) || (is_literal e && is_affine n d)
is_affine n (Exponentiation e k) = false

-- the point at which n variables are 0, and that at which variable i is 1 and the others are 0
abbrev pub origin : ℕ → List ℤ
origin n = replicate n (pos 0)

abbrev pub unit : ℕ → ℕ → List ℤ
unit n i = slice_set (origin n) i (pos 1)

-- whether a value is there and is z
abbrev pub is_value : ℤ → Option ℤ → Bool
is_value z None = false
is_value z (Some y) = int_eq y z

-- whether the value of an expression is z, within 128 bits, at the unit points of the first k of n variables
abbrev pub agrees_at_units : ℕ → Term → ℤ → ℕ → Bool
agrees_at_units n t z zero = true
agrees_at_units n t z (suc k) = agrees_at_units n t z k && is_value z (value_within t (unit n k))

-- whether an integer is at least 0
abbrev pub is_natural : ℤ → Bool
is_natural (pos n) = true
is_natural (negsuc n) = false

-- whether a value is there and is natural, and is that at all unit points
abbrev pub has_origin_value : ℕ → Term → Option ℤ → Bool
has_origin_value n t None = false
has_origin_value n t (Some z) = is_natural z && agrees_at_units n t z n

-- whether an expression is affine over the first n variables, and its value at the origin is natural, and is that at
-- each unit point
abbrev pub is_natural_constant : ℕ → Term → Bool
is_natural_constant n t = is_affine n t && has_origin_value n t (value_within t (origin n))

-- such an expression has one value everywhere, that at the origin, and is never negative
pub record NaturalConstantsAreNatural : Type 0 where
  pub same : (n : ℕ) (t : Term) → is_natural_constant n t ≡ true → (env : List ℤ) → value t env ≡ value t (origin n)
  pub natural : (n : ℕ) (t : Term) → is_natural_constant n t ≡ true → (env : List ℤ) → pos 0 ≤ℤ value t env
