-- The rows and the new values of a program's rules as expressions, which are true of each step.
use Rattle.std.specs.Prelude.{◌≡◌, ℕ, suc, ◌+◌, Bool, List, [], ◌∷◌, ◌++◌, map, ℤ, pos, Option, Some, None}
use Rattle.guard_prep.specs.model.Terms.{Term, Literal, Variable, Addition, Multiplication, value}
use Rattle.guard_prep.specs.model.Programs.{Program, Rule, rule_at, arity_of}
use Rattle.guard_prep.specs.linear_forms.Forms.{Form, at, form_value}
use Rattle.guard_prep.specs.its_model.Valid.{IsValid}
use Rattle.guard_prep.specs.Prepared.{rows_of, new_values_of, polys_of}
use Rattle.potential_nodes.specs.Ground.{Ground, IsTrueGround}
use Rattle.potential_ground.specs.SquareRows.{square_rows}

-- coefficients times the variables from number i on
abbrev pub coefficients_term : ℕ → List ℤ → Term
coefficients_term i [] = Literal (pos 0)
coefficients_term i (a ∷ coefs) = Addition (Multiplication (Literal a) (Variable i)) (coefficients_term (suc i) coefs)

-- an affine form as an expression over its unknowns
abbrev pub form_expression : Form → Term
form_expression f = Addition (coefficients_term 0 f.coefs) (Literal f.constant)

-- the rows, those of squares last, the new values and the number of variables of the rule with a number; none if there
-- is no such rule
abbrev pub row_terms : Option Rule → List Term
row_terms None = []
row_terms (Some r) = map form_expression (rows_of r) ++ square_rows (r.left + r.free) (polys_of r)

abbrev pub new_terms : Option Rule → List Term
new_terms None = []
new_terms (Some r) = map form_expression (new_values_of r)

abbrev pub variable_count : Option Rule → ℕ
variable_count None = 0
variable_count (Some r) = r.left + r.free

-- the rows and new values over which lemmas on a program are checked: the prepared ones, and rows of squares
abbrev pub ground_of : Program → (Term → Bool) → Ground
ground_of p is_safe = record {
  program = p;
  rows = λ t. row_terms (rule_at p t);
  new_values = λ t. new_terms (rule_at p t);
  variables = λ t. variable_count (rule_at p t);
  places = λ s. arity_of p s;
  is_safe = is_safe;
}

-- a form as an expression has the form's value, and the rows and new values of a valid program are true of each step of
-- each run
pub record RowsAreTrueGround : Type 0 where
  pub values : (f : Form) (z : List ℤ) → value (form_expression f) z ≡ form_value f (at z) (pos 1)
  pub ground : (p : Program) (is_safe : Term → Bool) → IsValid p → IsTrueGround (ground_of p is_safe)
