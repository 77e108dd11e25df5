-- Rows of squares: the new value of an update that is affine but for a number times the square of a variable, compared
-- with affine expressions that are at most the square.
use Rattle.std.specs.Prelude.{ℕ, suc, Bool, true, ◌&&◌, if◌then◌else◌, ◌==◌, nat_lt, List, [], ◌∷◌, ◌++◌, length, map, ℤ, pos, negsuc}
use Rattle.std.specs.Prelude.{Option, Some, None}
use Rattle.guard_prep.specs.model.Terms.{Term, Literal, Variable, Negation, Addition, Subtraction, Multiplication}
use Rattle.guard_prep.specs.model.Polynomials.{Monomial, Polynomial}
use Rattle.guard_prep.specs.Prepared.{is_nonlinear}
use Rattle.potential_nodes.specs.signed_bounds.Safe.{is_natural}
use Rattle.potential_nodes.specs.PolynomialTerms.{form_term}

-- whether a polynomial has degree at most 1
abbrev pub is_affine : Polynomial → Bool
is_affine [] = true
is_affine (m ∷ ms) = nat_lt (length m.vars) 2 && is_affine ms

-- the monomials of degree at most 1
abbrev pub affine_part : Polynomial → Polynomial
affine_part [] = []
affine_part (m ∷ ms) = if nat_lt (length m.vars) 2 then m ∷ affine_part ms else affine_part ms

-- a number times the square of a variable
pub record Square : Type 0 where
  pub coef : ℤ
  pub variable : ℕ

-- the square that a number times a product of variables is, if the product is that of a variable with itself
abbrev pub square_of : ℤ → List ℕ → Option Square
square_of c [] = None
square_of c (v ∷ []) = None
square_of c (v ∷ w ∷ []) = if v == w then Some (record { coef = c; variable = v }) else None
square_of c (v ∷ w ∷ x ∷ vars) = None

-- the square without which a polynomial is affine, if there is one
abbrev pub square_in : Polynomial → Option Square
square_in [] = None
square_in (m ∷ ms) =
    if nat_lt (length m.vars) 2 then square_in ms else (if is_affine ms then square_of m.coef m.vars else None)

-- an affine expression in one variable: its slope times the variable, plus its offset
pub record Line : Type 0 where
  pub slope : ℤ
  pub offset : ℤ

abbrev pub line_term : ℕ → Line → Term
line_term v l = Addition (Multiplication (Literal l.slope) (Variable v)) (Literal l.offset)

-- the expressions 0, z, -z, 2*z - 1 and -2*z - 1, none of which exceeds the square of z at an integer z
abbrev pub line : ℤ → ℤ → Line
line slope offset = record { slope = slope; offset = offset }

abbrev pub lines_below : List Line
lines_below =
    line (pos 0) (pos 0) ∷ line (pos 1) (pos 0) ∷ line (negsuc 0) (pos 0) ∷ line (pos 2) (negsuc 0)
    ∷ line (negsuc 1) (negsuc 0) ∷ []

-- an expression, or its negation if a number is negative
abbrev pub signed : ℤ → Term → Term
signed z t = if is_natural z then t else Negation t

-- unknown w less a polynomial less the number of a square times a line: at least 0, or at most 0 if the number is
-- negative, where w is the polynomial plus the square
abbrev pub square_row : ℕ → Polynomial → Square → Line → Term
square_row w rest s l =
    signed s.coef (Subtraction (Subtraction (Variable w) (form_term rest)) (Multiplication (Literal s.coef) (line_term s.variable l)))

-- the rows of unknown w, which is a polynomial plus what may be a square: one for each line
abbrev pub rows_with : ℕ → Polynomial → Option Square → List Term
rows_with w rest None = []
rows_with w rest (Some s) = map (square_row w rest s) lines_below

-- the rows of unknown w, whose value is that of a polynomial
abbrev pub rows_of_update : ℕ → Polynomial → List Term
rows_of_update w p = rows_with w (affine_part p) (square_in p)

-- the rows of updates in order of places, where those of degree 2 or more have the unknowns from k on
abbrev pub square_rows : ℕ → List Polynomial → List Term
square_rows k [] = []
square_rows k (p ∷ ps) = if is_nonlinear p then rows_of_update k p ++ square_rows (suc k) ps else square_rows k ps
