-- The text of a polynomial as the code writes it, in a pass for each rank; the clauses of the functions inside cite it.
use Rattle.std.specs.Prelude.{ℕ, Bool, true, false, List, [], ◌∷◌, ◌++◌, codes, filter, nat_eq}
use Rattle.std.specs.List.{flat_map, range_with_len}
use Rattle.poly_terms.specs.model.Polynomials.{Monomial, Polynomial}
use Rattle.poly_terms.specs.model.Programs.{Name}
use Rattle.signed_text.specs.Polynomials.{variable_text, monomial_text, rank_of}

-- variables with a `*` before each
abbrev pub factors_after_times : List Name → List ℕ → List ℕ
factors_after_times names vars = flat_map (λ i. codes "*" ++ variable_text names i) vars

-- the signs of a monomial that is added, and of one that is subtracted, as it is the first of the polynomial or not
abbrev pub plus_sign : Bool → List ℕ
plus_sign true = []
plus_sign false = codes " + "

abbrev pub minus_sign : Bool → List ℕ
minus_sign true = codes "-"
minus_sign false = codes " - "

-- a monomial, as it is the first of the polynomial or not
abbrev pub signed_monomial : List Name → Bool → Monomial → List ℕ
signed_monomial names first m = monomial_text names (plus_sign first) (minus_sign first) m

-- monomials in order, of which the first one may be the first of the polynomial
abbrev pub signed_monomials : List Name → Bool → Polynomial → List ℕ
signed_monomials names first [] = []
signed_monomials names first (m ∷ ms) = signed_monomial names first m ++ signed_monomials names false ms

-- whether the next monomial is the first of the polynomial, after these
abbrev pub is_first_after : Bool → Polynomial → Bool
is_first_after first [] = first
is_first_after first (m ∷ ms) = false

-- the monomials of a rank, in order, and those of the first ranks, rank by rank
abbrev pub with_rank : ℕ → Polynomial → Polynomial
with_rank rank ms = filter (λ m. nat_eq (rank_of m) rank) ms

abbrev pub in_ranks : ℕ → Polynomial → Polynomial
in_ranks ranks ms = flat_map (λ rank. with_rank rank ms) (range_with_len 0 ranks)
