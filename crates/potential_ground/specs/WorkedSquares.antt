-- Worked values of rows of squares, and a loop that they bound.
use Rattle.std.specs.Prelude.{◌≡◌, List, [], ◌∷◌, map, ℤ, pos, negsuc, Option, Some, None}
use Rattle.guard_prep.specs.model.Terms.{Literal, Variable, Multiplication, value}
use Rattle.guard_prep.specs.model.Programs.{Program, AtLeast, LessThan, Compare}
use Rattle.guard_prep.specs.model.Polynomials.{Monomial, Polynomial}
use Rattle.potential_nodes.specs.signed_bounds.Bounds.{Signed, Constant, PositivePart}
use Rattle.potential_nodes.specs.Lookup.{numbered}
use Rattle.potential_nodes.specs.Certificates.{Summand, OneRow}
use Rattle.potential_nodes.specs.Facts.{SumFact, once_charge}
use Rattle.potential_nodes.specs.Checks.{BadMove}
use Rattle.potential_nodes.specs.SignedNodes.{SignedLemma}
use Rattle.potential_nodes.specs.Worked.{number, times, gap}
use Rattle.potential_ground.specs.SquareRows.{Square, square_in, rows_of_update, square_rows}
use Rattle.potential_ground.specs.WorkedParts.{falls, function, keeps, keeps_by, pays, product, over_two_symbols, rule, refused_first, stated, refused_at}

-- 2*B - A*A + 3, A*A, and B + 1
abbrev pub less_square : Polynomial
less_square = number (pos 3) ∷ product (negsuc 0) 0 0 ∷ times (pos 2) 1 ∷ []

abbrev pub just_square : Polynomial
just_square = product (pos 1) 0 0 ∷ []

abbrev pub no_square : Polynomial
no_square = number (pos 1) ∷ times (pos 1) 1 ∷ []

-- 2*B - A*A + 3 is affine but for -1 times the square of A; B + 1, A*B, A*A + B*B, A*A*A and a square behind another
-- product have none. At A = 3, B = 1 and the unknown 2*B - A*A + 3 = -4 its rows are 9 less 0, 3, -3, 5 and -7; where
-- the unknown is -3, its first row is 8. Of the updates B + 1, A*A, A*B and A*A - B the second and the last have rows,
-- of unknowns 2 and 4
pub record SquareRowsAreWorkedOut : Type 0 where
  pub less : square_in less_square ≡ Some (record { coef = negsuc 0; variable = 0 })
  pub none : square_in no_square ≡ None
  pub product_of_two : square_in (product (pos 1) 0 1 ∷ []) ≡ None
  pub two : square_in (product (pos 1) 0 0 ∷ product (pos 1) 1 1 ∷ []) ≡ None
  pub cube : square_in (record { coef = pos 1; vars = 0 ∷ 0 ∷ 0 ∷ [] } ∷ []) ≡ None
  pub behind : square_in (product (pos 1) 0 1 ∷ product (pos 1) 1 1 ∷ []) ≡ None
  pub values : map (λ t. value t (pos 3 ∷ pos 1 ∷ negsuc 3 ∷ [])) (rows_of_update 2 less_square)
      ≡ pos 9 ∷ pos 6 ∷ pos 12 ∷ pos 4 ∷ pos 16 ∷ []
  pub other : map (λ t. value t (pos 3 ∷ pos 1 ∷ negsuc 2 ∷ [])) (rows_of_update 2 less_square)
      ≡ pos 8 ∷ pos 5 ∷ pos 11 ∷ pos 3 ∷ pos 15 ∷ []
  pub all : map (λ t. value t (pos 1 ∷ pos 2 ∷ pos 10 ∷ pos 20 ∷ pos 30 ∷ []))
      (square_rows 2 (no_square ∷ just_square ∷ (product (pos 1) 0 1 ∷ []) ∷ (product (pos 1) 0 0 ∷ times (negsuc 0) 1 ∷ []) ∷ []))
      ≡ pos 10 ∷ pos 9 ∷ pos 11 ∷ pos 9 ∷ pos 13 ∷ pos 32 ∷ pos 31 ∷ pos 33 ∷ pos 31 ∷ pos 35 ∷ []

-- l0(A, B) -> l1(A, B), and l1 -> l1(A*A, B) where A < B and A >= 2
abbrev pub squaring_loop : Program
squaring_loop = over_two_symbols 2 (rule 2 0 1 (Variable 0 ∷ Variable 1 ∷ []) []
    ∷ rule 2 1 1 (Multiplication (Variable 0) (Variable 0) ∷ Variable 1 ∷ [])
    (Compare (Variable 0) LessThan (Variable 1) ∷ Compare (Variable 0) AtLeast (Literal (pos 2)) ∷ []) ∷ [])

-- B - A at both symbols pays 1 for each step by rule 2, whose move has this certificate
abbrev pub squaring_lemmas : List Summand → List SignedLemma
squaring_lemmas shown =
    falls (function 0 (gap (pos 0)) ∷ function 1 (gap (pos 0)) ∷ []) 1 (keeps 1 ∷ keeps_by 2 shown ∷ [])
    (pays 2 (OneRow 1 0 ∷ []) ∷ []) (PositivePart (gap (pos 0))) ∷ []

-- A*A is at least 2*A - 1, so with A >= 2 rule 2 lowers B - A by 1 or more, and occurs at most [B - A] times; it isn't
-- shown by A*A being at least A, nor by a row that isn't there
pub record SquaringLoopsAreBounded : Type 0 where
  pub accepted : refused_first squaring_loop (squaring_lemmas (OneRow 1 1 ∷ OneRow 1 5 ∷ [])) ≡ None
  pub states : numbered (stated (squaring_lemmas (OneRow 1 1 ∷ OneRow 1 5 ∷ []))) 1
      ≡ Some (SumFact (once_charge 2 ∷ []) (PositivePart (gap (pos 0))))
  pub flat : refused_first squaring_loop (squaring_lemmas (OneRow 1 1 ∷ OneRow 1 3 ∷ [])) ≡ refused_at 1 (BadMove 2)
  pub no_row : refused_first squaring_loop (squaring_lemmas (OneRow 1 1 ∷ OneRow 1 7 ∷ [])) ≡ refused_at 1 (BadMove 2)
