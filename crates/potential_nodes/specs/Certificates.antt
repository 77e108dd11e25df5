-- Certificates: combinations of rows and of products of two rows show that a form is at least 0 wherever the rows are.
use Rattle.std.specs.Prelude.{◌≡◌, ℕ, Bool, true, ◌&&◌, ◌||◌, List, [], ◌∷◌, ℤ, pos, ◌≤ℤ◌}
use Rattle.std.specs.List.{AllByRecursion}
use Rattle.potentials.specs.model.Terms.{Term, Literal, Variable, Negation, Addition, Subtraction, Multiplication}
use Rattle.potentials.specs.model.Terms.{value}
use Rattle.affine_constants.specs.Constants.{is_natural_constant}
use Rattle.signed_bounds.specs.Safe.{IsSafe}
use Rattle.potential_nodes.specs.PolynomialTerms.{term_at}

-- a summand of a certificate: m times row i; m times row i times row j; or m times variable u times row i, where row k
-- is the negation of row i
pub data Summand : Type 0 where
  OneRow : ℕ → ℕ → Summand
  TwoRows : ℕ → ℕ → ℕ → Summand
  ZeroRow : ℤ → ℕ → ℕ → ℕ → Summand

-- the expression of a summand; a row that doesn't exist is 0
abbrev pub summand_term : List Term → Summand → Term
summand_term rows (OneRow m i) = Multiplication (Literal (pos m)) (term_at rows i)
summand_term rows (TwoRows m i j) =
    Multiplication (Literal (pos m)) (Multiplication (term_at rows i) (term_at rows j))
summand_term rows (ZeroRow m i k u) = Multiplication (Literal m) (Multiplication (Variable u) (term_at rows i))

-- a goal minus each summand
abbrev pub rest : List Term → List Summand → Term → Term
rest rows [] goal = goal
rest rows (s ∷ summands) goal = rest rows summands (Subtraction goal (summand_term rows s))

-- the maximum number of unknowns of a rule
abbrev pub unknown_limit : ℕ
unknown_limit = 96

-- whether an expression is never negative, by a test or since it is affine in the unknowns and has the same natural number
-- as its value everywhere
abbrev pub is_never_negative : (Term → Bool) → Term → Bool
is_never_negative is_safe t = is_safe t || is_natural_constant unknown_limit t

-- whether the two rows that a summand says are negations of each other have a sum of at most 0
abbrev pub are_opposite : (Term → Bool) → List Term → Summand → Bool
are_opposite is_safe rows (OneRow m i) = true
are_opposite is_safe rows (TwoRows m i j) = true
are_opposite is_safe rows (ZeroRow m i k u) =
    is_never_negative is_safe (Negation (Addition (term_at rows i) (term_at rows k)))

abbrev pub all_opposite : (Term → Bool) → List Term → List Summand → Bool
all_opposite is_safe rows [] = true
all_opposite is_safe rows (s ∷ summands) = are_opposite is_safe rows s && all_opposite is_safe rows summands

-- whether the summands show the goal: what remains after subtracting them is never negative
abbrev pub shows : (Term → Bool) → List Term → List Summand → Term → Bool
shows is_safe rows summands goal =
    all_opposite is_safe rows summands && is_never_negative is_safe (rest rows summands goal)

-- all rows are at least 0 at these values
abbrev pub RowsHoldAt : List Term → List ℤ → Type 0
RowsHoldAt rows z = AllByRecursion (λ row. pos 0 ≤ℤ value row z) rows

-- a goal that a certificate shows is at least 0 wherever all rows are
pub record CertificatesOfProductsHold : Type 0 where
  pub each : (is_safe : Term → Bool) → IsSafe is_safe → (rows : List Term) (summands : List Summand) (goal : Term)
      → shows is_safe rows summands goal ≡ true → (z : List ℤ) → RowsHoldAt rows z → pos 0 ≤ℤ value goal z
