-- When one sum of products is at most another, product by product.
use Rattle.std.specs.Prelude.{ℕ, ◌-◌, ◌*◌, Bool, true, false, ◌&&◌, ◌||◌, ◌==◌, nat_le, if◌then◌else◌, List, [], ◌∷◌}
use Rattle.std.specs.Prelude.{Option, Some, None, option_map, pos}
use Rattle.poly_terms.specs.model.Polynomials.{Polynomial}
use Rattle.poly_terms.specs.model.Terms.{Term}
use Rattle.signed_bounds.specs.Bounds.{Signed, Constant, PositivePart, SignedParts, NoParts, Part}
use Rattle.signed_bounds.specs.Products.{Product, is_comparable}
use Rattle.signed_bounds.specs.Fits.{is_equal, factor_fits, maximum_parts, weighted_difference}

-- the factors without the first one that passes a test; none if no factor passes
abbrev pub without_first : (Signed → Bool) → List Signed → Option (List Signed)
without_first test [] = None
without_first test (b ∷ bs) = if test b then Some bs else option_map (λ rest. b ∷ rest) (without_first test bs)

-- the first list where there is one, else the second
abbrev pub or_else : Option (List Signed) → Option (List Signed) → Option (List Signed)
or_else None second = second
or_else (Some first) second = Some first

-- the factors without one that is equal to the bound
abbrev pub without_equal : (Term → Bool) → Signed → List Signed → Option (List Signed)
without_equal is_safe a bs = without_first (is_equal is_safe a) bs

-- the factors without the first one that is equal to the bound, or else without the first one that the bound fits
abbrev pub without_fitting : (Term → Bool) → Signed → List Signed → Option (List Signed)
without_fitting is_safe a bs = or_else (without_equal is_safe a bs) (without_first (factor_fits is_safe a) bs)

-- whether no factor is left
abbrev pub is_empty : List Signed → Bool
is_empty [] = true
is_empty (b ∷ bs) = false

-- whether each of the first factors takes one of the second, in turn, and none of the second is left over
abbrev pub are_matched : (Signed → List Signed → Option (List Signed)) → List Signed → List Signed → Bool
are_matched without [] gs = is_empty gs
are_matched without (f ∷ fs) gs = elim (without f gs) [ None ↦ false | Some rest ↦ are_matched without fs rest ]

-- whether the two lists have equal factors
abbrev pub factors_equal : (Term → Bool) → List Signed → List Signed → Bool
factors_equal is_safe fs gs = are_matched (without_equal is_safe) fs gs

-- whether each factor of the first list fits another one of the second, and none of the second is left over
abbrev pub factors_fit : (Term → Bool) → List Signed → List Signed → Bool
factors_fit is_safe fs gs = are_matched (without_fitting is_safe) fs gs

-- the number of times, of n, that these factors are missing after they were taken from the products whose factors pass
-- the test
abbrev pub missing_times : (List Signed → List Signed → Bool) → ℕ → List Signed → List Product → ℕ
missing_times test n fs [] = n
missing_times test n fs (q ∷ qs) =
    missing_times test (if test fs q.factors then n - q.times else n) fs qs

-- the products that are left after n times these factors were taken from those whose factors pass the test, the first
-- ones first
abbrev pub used_up : (List Signed → List Signed → Bool) → ℕ → List Signed → List Product → List Product
used_up test n fs [] = []
used_up test n fs (q ∷ qs) =
    record { times = if test fs q.factors then q.times - n else q.times; factors = q.factors }
    ∷ used_up test (if test fs q.factors then n - q.times else n) fs qs

-- the products of the first list with the number of times that each is missing in the second
abbrev pub missing_products : (List Signed → List Signed → Bool) → List Product → List Product → List Product
missing_products test [] qs = []
missing_products test (p ∷ ps) qs =
    record { times = missing_times test p.times p.factors qs; factors = p.factors }
    ∷ missing_products test ps (used_up test p.times p.factors qs)

-- the products of the second list that are left after all products of the first were taken from it
abbrev pub all_used_up : (List Signed → List Signed → Bool) → List Product → List Product → List Product
all_used_up test [] qs = qs
all_used_up test (p ∷ ps) qs = all_used_up test ps (used_up test p.times p.factors qs)

-- whether n is at most m times a constant among the parts
abbrev pub is_below_constant : ℕ → ℕ → SignedParts → Bool
is_below_constant n m NoParts = false
is_below_constant n m (Part (Constant c) bs) = nat_le n (m * c) || is_below_constant n m bs
is_below_constant n m (Part b bs) = is_below_constant n m bs

-- the polynomial 1
abbrev pub one_polynomial : Polynomial
one_polynomial = record { coef = pos 1; vars = [] } ∷ []

-- the polynomial whose positive part is the product of the factors: 1 if there are none, or that of the only factor
abbrev pub whole_polynomial : List Signed → Option Polynomial
whole_polynomial [] = Some one_polynomial
whole_polynomial (PositivePart p ∷ []) = Some p
whole_polynomial _ = None

-- whether n times the first polynomial is at most m times the second, if there are both
abbrev pub fits_polynomial : (Term → Bool) → ℕ → Option Polynomial → ℕ → Option Polynomial → Bool
fits_polynomial is_safe n (Some f) m (Some h) = is_safe (weighted_difference n f m h)
fits_polynomial is_safe n _ m _ = false

-- whether the number n is at most m times a maximum, by a constant among its parts
abbrev pub fits_maximum : ℕ → List Signed → ℕ → List Signed → Bool
fits_maximum n [] m (b ∷ []) = is_below_constant n m (maximum_parts b)
fits_maximum n _ m _ = false

-- whether n times the first factors are at most m times the second as a whole: a number or a polynomial each, or a
-- number and a maximum with a constant that is large enough
abbrev pub fits_whole : (Term → Bool) → ℕ → List Signed → ℕ → List Signed → Bool
fits_whole is_safe n fs m gs =
    fits_polynomial is_safe n (whole_polynomial fs) m (whole_polynomial gs) || fits_maximum n fs m gs

-- the product, taken 0 times
abbrev pub occurs_never : Product → Product
occurs_never q = record { times = 0; factors = q.factors }

-- the products with the first one taken 0 times that as a whole is at least the product; none if there is no such
-- product
abbrev pub used_whole : (Term → Bool) → Product → List Product → Option (List Product)
used_whole is_safe p [] = None
used_whole is_safe p (q ∷ qs) =
    if fits_whole is_safe p.times p.factors q.times q.factors
    then Some (occurs_never q ∷ qs)
    else option_map (λ rest. q ∷ rest) (used_whole is_safe p qs)

-- the products that are left after the product was taken from those that it fits, as often as it occurs, or else from
-- one that as a whole is at least it; none if neither is possible
abbrev pub without_product : (Term → Bool) → Product → List Product → Option (List Product)
without_product is_safe p qs =
    if missing_times (factors_fit is_safe) p.times p.factors qs == 0
    then Some (used_up (factors_fit is_safe) p.times p.factors qs)
    else used_whole is_safe p qs

-- whether each product of the first list, in turn, can be taken from those left of the second
abbrev pub dominated : (Term → Bool) → List Product → List Product → Bool
dominated is_safe [] qs = true
dominated is_safe (p ∷ ps) qs =
    elim (without_product is_safe p qs) [ None ↦ false | Some rest ↦ dominated is_safe ps rest ]

-- whether the first sum is at most the second, product by product: equal products are taken first, and the products
-- left of the first are then taken from those left of the second; sums that are too large together aren't compared
abbrev pub covers : (Term → Bool) → List Product → List Product → Bool
covers is_safe ps qs =
    is_comparable ps qs && dominated is_safe
    (missing_products (factors_equal is_safe) ps qs)
    (all_used_up (factors_equal is_safe) ps qs)
