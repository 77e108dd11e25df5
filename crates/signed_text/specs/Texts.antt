-- The text of a bound, for people.
use Rattle.std.specs.Prelude.{ℕ, List, [], ◌++◌, codes, decimal}
use Rattle.poly_terms.specs.model.Programs.{Name}
use Rattle.signed_bounds.specs.Bounds.{Signed, Constant, PositivePart, SumOf, ProductOf, MaximumOf, MinimumOf, Quotient}
use Rattle.signed_bounds.specs.Bounds.{Root, PowerOf, SignedParts, NoParts, Part}
use Rattle.signed_text.specs.Polynomials.{polynomial_text}

-- a factor with this text: a sum or a quotient is in brackets
abbrev pub factor_text : Signed → List ℕ → List ℕ
factor_text (SumOf bs) text = codes "(" ++ (text ++ codes ")")
factor_text (Quotient b divisor) text = codes "(" ++ (text ++ codes ")")
factor_text _ text = text

abbrev mutual
  -- the text of a bound over start arguments with these names: a polynomial whose positive part is taken is in square
  -- brackets, quotients are rounded down, and `root` is the whole square root
  pub signed_text : List Name → Signed → List ℕ
  signed_text names (Constant n) = decimal n
  signed_text names (PositivePart p) = codes "[" ++ (polynomial_text names p ++ codes "]")
  signed_text names (SumOf bs) = separated_text names (codes "0") (codes " + ") bs
  signed_text names (ProductOf NoParts) = codes "1"
  signed_text names (ProductOf (Part b bs)) = factor_text b (signed_text names b) ++ factors_text names bs
  signed_text names (MaximumOf bs) = codes "max(" ++ (separated_text names (codes "0") (codes ", ") bs ++ codes ")")
  signed_text names (MinimumOf b bs) =
      codes "min(" ++ (signed_text names b ++ (separated_rest names (codes ", ") bs ++ codes ")"))
  signed_text names (Quotient b divisor) = codes "(" ++ (signed_text names b ++ (codes ")/" ++ decimal divisor))
  signed_text names (Root b) = codes "root(" ++ (signed_text names b ++ codes ")")
  signed_text names (PowerOf base b) = decimal base ++ (codes "^(" ++ (signed_text names b ++ codes ")"))

  -- parts with a separator between each two; the text `nothing` if there are none
  pub separated_text : List Name → List ℕ → List ℕ → SignedParts → List ℕ
  separated_text names nothing separator NoParts = nothing
  separated_text names nothing separator (Part b bs) = signed_text names b ++ separated_rest names separator bs

  -- parts with the separator before each
  pub separated_rest : List Name → List ℕ → SignedParts → List ℕ
  separated_rest names separator NoParts = []
  separated_rest names separator (Part b bs) = separator ++ (signed_text names b ++ separated_rest names separator bs)

  -- factors with a `*` before each
  pub factors_text : List Name → SignedParts → List ℕ
  factors_text names NoParts = []
  factors_text names (Part b bs) = codes "*" ++ (factor_text b (signed_text names b) ++ factors_text names bs)
