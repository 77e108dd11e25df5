-- Single factors and their polynomials.
use Rattle.std.specs.Prelude.{◌≡◌, ◌≢◌, List, [], ◌∷◌, Option, Some, None}
use denote.Ref.{Bor}
use Rattle.poly_terms.specs.Views.{poly_of}
use Rattle.poly_terms.specs.declared.poly.Poly.{Poly}
use Rattle.poly_terms.specs.model.Polynomials.{Polynomial}
use Rattle.signed_bounds.specs.Bounds as plain
use Rattle.signed_bounds.specs.Bounds.{PositivePart}
use Rattle.signed_bounds.specs.Views.{signed_of}
use Rattle.signed_bounds.specs.declared.signed.Signed.{Signed}

-- the list is that of this bound alone; or it isn't a list of one bound
abbrev pub IsSingle : List plain.Signed → Option (Bor Signed) → Type 0
IsSingle fs None = (b : plain.Signed) → fs ≢ b ∷ []
IsSingle fs (Some r) = fs ≡ signed_of r.now ∷ []

-- the bound is the positive part of the polynomial; or it is no positive part
abbrev pub IsPolynomial : plain.Signed → Option (Bor Poly) → Type 0
IsPolynomial b None = (p : Polynomial) → b ≢ PositivePart p
IsPolynomial b (Some r) = b ≡ PositivePart (poly_of r.now)
