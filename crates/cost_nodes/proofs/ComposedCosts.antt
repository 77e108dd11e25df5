-- The parts of composed bounds on costs, as the nodes on costs have them.
use Rattle.std.proofs.Common.{◌≡◌, ℕ, List, [], ◌∷◌, ◌++◌, filter, Option, refl}
use Rattle.std.specs.List.{range_with_len}
use Rattle.model.specs.Bounds.{Bound}
use Rattle.model.specs.Polynomials.{Polynomial}
use Rattle.cert_types.specs.cert_rules.AcceptsSizes.{left_of}
use Rattle.cert_types.specs.cert_rules.Checks.{needed_at_cost, result_variables_after}
use Rattle.cert_types.specs.cert_rules.ComposedSizes.{composed_side_bound, is_member, offset_of, reads}
use Rattle.cert_types.specs.cert_rules.Nodes.{SideBound, Linear, Poly}
use Rattle.cert_types.specs.cert_rules.Setting.{Setting}
use Rattle.cost_nodes.specs.ComposedCosts.{result_variables_after_each}

-- the places that a side bound reads after each of these rules are the result variables that a cost node needs
pub needed-each : (s : Setting) (t : ℕ) (side_bound : SideBound) (js es : List ℕ)
    → js ≡ filter (reads (s.cost_poly t) side_bound) (range_with_len 0 (left_of s.program t))
    → result_variables_after_each js es ≡ needed_at_cost s t side_bound es
needed-each s t side_bound js [] e = refl
needed-each s t side_bound js (x ∷ es) e = λ i. result_variables_after x (e i) ++ needed-each s t side_bound js es e i

-- a side bound of which no place is a member is itself the bound, at the given sizes
pub no-members : (q : Option Polynomial) (side_bound : SideBound) (e : ℕ) (sizes : ℕ → Bound)
    → offset_of q side_bound (is_member [] e) sizes ≡ composed_side_bound q side_bound sizes
no-members q (Linear den form multipliers) e sizes = refl
no-members q Poly e sizes = refl
