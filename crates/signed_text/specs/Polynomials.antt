-- The text of a polynomial, for people.
use Rattle.std.specs.Prelude.{ℕ, ◌+◌, ◌*◌, ◌-◌, ◌==◌, min, if◌then◌else◌, List, [], ◌∷◌, ◌++◌, length, codes, decimal}
use Rattle.std.specs.Prelude.{nat_abs, nat_eq, filter, slice_index_or}
use Rattle.std.specs.Int.{is_negative}
use Rattle.std.specs.List.{flat_map, join_by, range_with_len}
use Rattle.poly_terms.specs.model.Polynomials.{Monomial, Polynomial}
use Rattle.poly_terms.specs.model.Programs.{Name}

-- the name of a start argument; one that isn't there has the value 0
abbrev pub variable_text : List Name → ℕ → List ℕ
variable_text names i = slice_index_or names i (codes "0")

-- a number times variables: the number 1 is left out where there are variables
abbrev pub multiple_text : List Name → ℕ → List ℕ → List ℕ
multiple_text names size [] = decimal size
multiple_text names size (i ∷ vars) =
    (if size == 1 then [] else decimal size ++ codes "*") ++ join_by (variable_text names) (codes "*") (i ∷ vars)

-- a monomial after its sign: the first of these texts if it is added, and the second if it is subtracted
abbrev pub monomial_text : List Name → List ℕ → List ℕ → Monomial → List ℕ
monomial_text names plus minus m =
    (if is_negative m.coef then minus else plus) ++ multiple_text names (nat_abs m.coef) m.vars

-- monomials in order: the first one has no sign where it is added, and no monomials are 0
abbrev pub monomials_text : List Name → Polynomial → List ℕ
monomials_text names [] = codes "0"
monomials_text names (m ∷ ms) =
    monomial_text names [] (codes "-") m ++ flat_map (monomial_text names (codes " + ") (codes " - ")) ms

-- the rank of a monomial: products of variables come first, then single variables, and then numbers; of products and of
-- variables what is added comes before what is subtracted
abbrev pub rank_of : Monomial → ℕ
rank_of m = min 4 (2 * (2 - length m.vars) + (if is_negative m.coef then 1 else 0))

-- the text of a polynomial over start arguments with these names: its monomials by their ranks
abbrev pub polynomial_text : List Name → Polynomial → List ℕ
polynomial_text names p =
    monomials_text names (flat_map (λ rank. filter (λ m. nat_eq (rank_of m) rank) p) (range_with_len 0 5))
