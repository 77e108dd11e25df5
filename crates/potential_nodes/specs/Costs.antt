-- The cost of a rule's steps as a charge.
use Rattle.std.specs.Prelude.{ℕ, [], Option, Some, None}
use Rattle.potentials.specs.model.Terms.{Term}
use Rattle.potentials.specs.model.Programs.{Program, Rule, rule_at}
use Rattle.potentials.specs.model.Polynomials.{Polynomial}
use Rattle.potentials.specs.Sums.{Charge}
use Rattle.signed_bounds.specs.poly_terms.Expanding.{expanded}
use Rattle.potential_nodes.specs.Facts.{one_form}

-- the cost of a step as a polynomial over the variables of its rule: the written cost, or 1 if none is written
abbrev pub cost_form : Option Term → Polynomial
cost_form None = one_form
cost_form (Some c) = expanded c

-- the cost of a rule as a polynomial; 0 if there is no rule
abbrev pub cost_form_in : Option Rule → Polynomial
cost_form_in None = []
cost_form_in (Some r) = cost_form r.cost

-- the charge of its cost for each step by the rule with a number
abbrev pub cost_charge : Program → ℕ → Charge
cost_charge p t = record { rule = t; form = cost_form_in (rule_at p t) }
