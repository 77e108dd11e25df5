-- Worked values of rows and new values as expressions.
use Rattle.std.specs.Prelude.{◌≡◌, [], ◌∷◌, pos, negsuc, Some, None, map}
use Rattle.guard_prep.specs.model.Terms.{value}
use Rattle.guard_prep.specs.WorkedRows.{two}
use Rattle.guard_prep.specs.WorkedPoints.{worked_rule}
use Rattle.potential_ground.specs.RowTerms.{form_expression, row_terms, new_terms, variable_count}

-- 2*x - y + 3 at (4, 5), and at (4), where y is 0; the rule l0(A) -> l1(A - B, A*A) where A >= 1 and A*A >= B: at 3, 2
-- and the square 9 its row A - 1 is 2, those of the square are 9 less 0, 3, -3, 5 and -7, and its new values are 1 and 9; it has two variables; a rule that doesn't exist
-- has no rows and no new values
pub record GroundsAreWorkedOut : Type 0 where
  pub form : value (form_expression (two (pos 2) (negsuc 0) (pos 3))) (pos 4 ∷ pos 5 ∷ []) ≡ pos 6
  pub missing : value (form_expression (two (pos 2) (negsuc 0) (pos 3))) (pos 4 ∷ []) ≡ pos 11
  pub rows : map (λ t. value t (pos 3 ∷ pos 2 ∷ pos 9 ∷ [])) (row_terms (Some worked_rule))
      ≡ pos 2 ∷ pos 9 ∷ pos 6 ∷ pos 12 ∷ pos 4 ∷ pos 16 ∷ []
  pub new_values : map (λ t. value t (pos 3 ∷ pos 2 ∷ pos 9 ∷ [])) (new_terms (Some worked_rule)) ≡ pos 1 ∷ pos 9 ∷ []
  pub variables : variable_count (Some worked_rule) ≡ 2
  pub no_rule : row_terms None ≡ []
