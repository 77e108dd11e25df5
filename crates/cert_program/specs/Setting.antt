-- The setting of a program, over which acceptance is defined.
use Rattle.std.specs.Prelude.{ℕ, zero, suc, if◌then◌else◌, List, [], ◌∷◌, Option, Some, None, option_map}
use Rattle.guard_prep.specs.model.Programs.{Program, Rule, rule_at}
use Rattle.guard_prep.specs.model.Costs.{cost_rule}
use Rattle.guard_prep.specs.model.Polynomials.{Polynomial}
use Rattle.guard_prep.specs.linear_forms.Forms.{Form}
use Rattle.guard_prep.specs.Prepared.{is_nonlinear, polys_of, rows_of, new_values_of}
use Rattle.bound_table.specs.InForce.{rewritten}
use Rattle.bound_table.specs.Below.{below}
use Rattle.cert_rules.specs.Combined.{form_at}
use Rattle.cert_rules.specs.Setting.{Setting}

-- the rows of a rule, where there is one
abbrev pub rows_in : Option Rule → List Form
rows_in None = []
rows_in (Some r) = rows_of r

-- the new values of a rule, where there is one
abbrev pub new_values_in : Option Rule → List Form
new_values_in None = []
new_values_in (Some r) = new_values_of r

-- the expanded updates of a rule, where there is one
abbrev pub polys_in : Option Rule → List Polynomial
polys_in None = []
polys_in (Some r) = polys_of r

-- a polynomial, where it has degree 2 or more
abbrev pub where_nonlinear : Polynomial → Option Polynomial
where_nonlinear q = if is_nonlinear q then Some q else None

-- the polynomial at a position of a list, where there is one and it has degree 2 or more
abbrev pub nonlinear_at : List Polynomial → ℕ → Option Polynomial
nonlinear_at [] i = None
nonlinear_at (q ∷ qs) zero = where_nonlinear q
nonlinear_at (q ∷ qs) (suc i) = nonlinear_at qs i

-- the cost rule of a rule with a cost
abbrev pub cost_rule_in : Option Rule → Option Rule
cost_rule_in None = None
cost_rule_in (Some r) = option_map (λ c. cost_rule r c) r.cost

-- the cost rule of the rule with a number, where there is one and it has a cost
abbrev pub cost_rule_at : Program → ℕ → Option Rule
cost_rule_at p t = cost_rule_in (rule_at p t)

-- the setting of a program: the rows and new values of each rule, and its updates of degree 2 and more; the rows and
-- the new value of each cost rule, and the cost if it has degree 2 or more; the rewriting by the table in force; and
-- the order `below`
abbrev pub setting_of : Program → Setting
setting_of p = record {
  program = p;
  rows = λ t. rows_in (rule_at p t);
  new_values = λ t. new_values_in (rule_at p t);
  poly = λ t i. nonlinear_at (polys_in (rule_at p t)) i;
  cost_rows = λ t. rows_in (cost_rule_at p t);
  cost_value = λ t. form_at (new_values_in (cost_rule_at p t)) 0;
  cost_poly = λ t. nonlinear_at (polys_in (cost_rule_at p t)) 0;
  rewrite = rewritten;
  below = below;
}
