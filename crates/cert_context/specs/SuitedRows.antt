-- When prepared rows belong to a rule, and their numbers are small enough for the checks.
use Rattle.std.specs.Prelude.{◌≡◌, ℕ, ◌≤◌, length, map, All, Some}
use Rattle.farkas_cert.specs.Sizes.{AreSmall, HasRowNumbers}
use Rattle.guard_prep.specs.declared.rule_rows.RuleRows.{RuleRows}
use Rattle.model.specs.Paths.{source_of}
use Rattle.model.specs.Programs.{Program, Rule, arity_of, rule_at}
use Rattle.poly_terms.specs.Views.{form_of, poly_of}
use Rattle.cert_types.specs.cert_rules.AcceptsSizes.{left_of}
use Rattle.cert_types.specs.cert_rules.Setting.{Setting}
use Rattle.cert_types.specs.cert_program.Setting.{nonlinear_at}

-- prepared rows suit side bounds: the rows are small, the new values have small numbers and no more coefficients than
-- there are unknowns, and there are no fewer unknowns than left variables
pub record SuitsSideBounds (m : RuleRows) : Type 0 where
  pub small : AreSmall (map form_of m.rows.items)
  pub new_values : All HasRowNumbers (map form_of m.new_values.items)
  pub width : All (λ f. length f.coefs ≤ m.unknowns) (map form_of m.new_values.items)
  pub left : m.left ≤ m.unknowns

-- prepared rows suit the goals of ranking functions: there are few new values, and no fewer unknowns than the rule's
-- source has places
pub record SuitsGoals (p : Program) (t : ℕ) (m : RuleRows) : Type 0 where
  pub new_values : All HasRowNumbers (map form_of m.new_values.items)
  pub few : length m.new_values.items ≤ 32
  pub width : All (λ f. length f.coefs ≤ m.unknowns) (map form_of m.new_values.items)
  pub left : (a : ℕ) → source_of p t ≡ Some a → arity_of p a ≤ m.unknowns

-- the prepared rows are those that a setting has for the rule with this number
pub record IsPreparedRuleOf (s : Setting) (t : ℕ) (m : RuleRows) : Type 0 where
  pub rows : map form_of m.rows.items ≡ s.rows t
  pub new_values : map form_of m.new_values.items ≡ s.new_values t
  pub polys : (i : ℕ) → nonlinear_at (map poly_of m.polys.items) i ≡ s.poly t i
  pub left : m.left ≡ left_of s.program t

-- there is a new value for each place of the rule's target
pub record HasPlaces (p : Program) (t : ℕ) (m : RuleRows) : Type 0 where
  pub each : (r : Rule) → rule_at p t ≡ Some r → length m.new_values.items ≡ arity_of p r.target
