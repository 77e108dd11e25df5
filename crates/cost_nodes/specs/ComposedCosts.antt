-- The parts of composed bounds on costs, for any list of rules that can come before.
use Rattle.std.specs.Prelude.{ℕ, List, [], ◌∷◌, ◌++◌, Option}
use Rattle.model.specs.Bounds.{Bound, MaximumOf}
use Rattle.model.specs.Polynomials.{Polynomial}
use Rattle.cert_types.specs.cert_rules.Checks.{result_variables_after}
use Rattle.cert_types.specs.cert_rules.Composed.{parts_for, sizes_after}
use Rattle.cert_types.specs.cert_rules.ComposedSizes.{composed_side_bound}
use Rattle.cert_types.specs.cert_rules.Nodes.{SideBound, ResultVariable}

-- these places after each of these rules
abbrev pub result_variables_after_each : List ℕ → List ℕ → List ResultVariable
result_variables_after_each js [] = []
result_variables_after_each js (e ∷ es) = result_variables_after e js ++ result_variables_after_each js es

-- a bound on the cost of a step: the maximum, over these rules, of the side bound at the sizes after each
abbrev pub step_over : Option Polynomial → SideBound → (ℕ → ℕ → Option Bound) → List ℕ → Bound
step_over q side_bound size es = MaximumOf (parts_for (λ e. composed_side_bound q side_bound (sizes_after size e)) es)
