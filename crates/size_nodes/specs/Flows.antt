-- The flows of values into the members of a loop, as the code stores them, and their rules.
use Rattle.std.specs.Prelude.{ℕ, ◌≤◌, ◌==◌, cond, List, [], ◌∷◌, length, nat_abs, All, Option}
use Rattle.model.specs.Bounds.{Bound}
use Rattle.model.specs.Polynomials.{Polynomial}
use Rattle.bound_expr.specs.Views.{bound_of}
use Rattle.cert_types.specs.cert_rules.Nodes as nodes
use Rattle.cert_types.specs.cert_rules.Nodes.{Member}
use Rattle.cert_types.specs.cert_rules.Limits.{IsInLimit}
use Rattle.cert_types.specs.cert_rules.Composed.{sizes_after}
use Rattle.cert_types.specs.cert_rules.ComposedSizes.{Flow, slope_of, offset_of, is_member}
use Rattle.cert_types.specs.declared.side_bound.SideBound.{SideBound}
use Rattle.cert_types.specs.declared.side_bound.SideBound.TheVariants.{Linear, Poly}
use Rattle.size_nodes.specs.declared.flow.Flow as code

-- the numbers of a linear side bound are within their limits, and it has no more coefficients than a rule has
-- variables
abbrev pub IsLimited : SideBound → Type 0
IsLimited (Linear den coefs constant multipliers) =
    (1 ≤ den) × ((length coefs.items ≤ 64) × All (λ c. IsInLimit (nat_abs c)) coefs.items)
IsLimited Poly = Unit {0}

-- a flow as plain data
abbrev pub flow_of : code.Flow → Flow
flow_of f = record { rule = f.rule; slope = f.slope; offset = bound_of f.offset }

-- the flow into a member by a side bound from rule e, with the polynomial of its place
abbrev pub flow_over : Option Polynomial → List Member → (ℕ → ℕ → Option Bound) → Member → nodes.SideBound → ℕ → Flow
flow_over q members size m side_bound e = record {
  rule = m.result_variable.rule;
  slope = slope_of side_bound (is_member members e);
  offset = offset_of q side_bound (is_member members e) (sizes_after size e);
}

-- the flows into a member from these rules; from each rule, the one by the upper side bound before that by the lower
-- one
abbrev pub flows_over : Option Polynomial → List Member → (ℕ → ℕ → Option Bound) → Member → List ℕ → List Flow
flows_over q members size m [] = []
flows_over q members size m (e ∷ es) =
    flow_over q members size m m.local.up e ∷ flow_over q members size m m.local.low e ∷ flows_over q members size m es

-- the rules of these ascending members, each once, except for rule t
abbrev pub rules_after : ℕ → List Member → List ℕ
rules_after t [] = []
rules_after t (m ∷ ms) = cond (m.result_variable.rule == t) (rules_after t ms) (m.result_variable.rule ∷ rules_after m.result_variable.rule ms)
