-- The polynomial whose positive part is a product of factors.
use Rattle.std.specs.Prelude.{◌≡◌, List, Some, None}
use Rattle.poly_terms.specs.Views.{poly_of}
use Rattle.signed_bounds.specs.Bounds as plain
use Rattle.signed_bounds.specs.Covers.{one_polynomial, whole_polynomial}
use Rattle.signed_within.specs.declared.whole.Whole.{Whole}
use Rattle.signed_within.specs.declared.whole.Whole.TheVariants.{One, Polynomial, Other}

-- the polynomial of the factors: 1, that of the only factor, or none
abbrev pub IsWhole : List plain.Signed → Whole → Type 0
IsWhole fs One = whole_polynomial fs ≡ Some one_polynomial
IsWhole fs (Polynomial r) = whole_polynomial fs ≡ Some (poly_of r.now)
IsWhole fs Other = whole_polynomial fs ≡ None
