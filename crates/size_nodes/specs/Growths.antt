-- The growth by each rule of a loop, as the code stores it, and the size that the rules compose.
use Rattle.std.specs.Prelude.{ℕ, ◌||◌, not, nat_lt, Bool, cond, List, [], ◌∷◌, filter, map, Option}
use Rattle.model.specs.Bounds.{Bound, SumOf, ProductOf, PowerOf, Parts, NoParts, Part}
use Rattle.bound_expr.specs.Views.{bound_of}
use Rattle.bound_table.specs.InForce.{rewritten}
use Rattle.cert_types.specs.cert_rules.Known.{known, is_zero_bound}
use Rattle.cert_types.specs.cert_rules.Composed.{both_parts}
use Rattle.cert_types.specs.cert_rules.ComposedSizes.{Flow, is_outer, is_inner, factor_of, addition_of}
use Rattle.cert_types.specs.Sizes.{joined}
use Rattle.size_nodes.specs.declared.growth.Growth as code
use Rattle.size_nodes.specs.declared.growth.FlowKind.{FlowKind}
use Rattle.size_nodes.specs.declared.growth.FlowKind.TheVariants.{Outer, Inner}

-- the test whether a flow belongs to the kind over which a maximum is taken
abbrev pub is_of : FlowKind → Flow → Bool
is_of Outer = is_outer
is_of (Inner rule) = is_inner rule

-- the offset of a flow, if it passes the test
abbrev pub offset_part : (Flow → Bool) → Flow → Parts
offset_part test f = cond (test f) (Part f.offset NoParts) NoParts

-- the parts of each element of a list, one after the other
abbrev pub all_joined : {A : Type 0} → (A → Parts) → List A → Parts
all_joined f [] = NoParts
all_joined f (x ∷ xs) = joined (f x) (all_joined f xs)

-- the growth by a rule of a loop: its factor, its addition, and whether the rewritten addition isn't 0
pub record Growth : Type 0 where
  pub rule : ℕ
  pub factor : ℕ
  pub addition : Bound
  pub adds : Bool

-- a growth as plain data
abbrev pub growth_of : code.Growth → Growth
growth_of g = record { rule = g.rule; factor = g.factor; addition = bound_of g.addition; adds = g.adds }

-- the growth by a rule with these flows
abbrev pub growth_by_flows : List Flow → ℕ → Growth
growth_by_flows fs t = record {
  rule = t;
  factor = factor_of fs t;
  addition = addition_of fs t;
  adds = not (is_zero_bound (rewritten (addition_of fs t)));
}

-- a rule that multiplies or adds
abbrev pub is_growing : Growth → Bool
is_growing g = nat_lt 1 g.factor || g.adds

-- the rules that multiply or add, by number
abbrev pub growing_rule_numbers : List Growth → List ℕ
growing_rule_numbers gs = map (λ g. g.rule) (filter is_growing gs)

-- the factor of a rule that multiplies to the power of its time
abbrev pub power_part : (ℕ → Option Bound) → Growth → Parts
power_part time g = cond (nat_lt 1 g.factor) (Part (PowerOf g.factor (known (time g.rule))) NoParts) NoParts

-- the addition of a rule that adds times its time
abbrev pub addition_part : (ℕ → Option Bound) → Growth → Parts
addition_part time g = cond g.adds (Part (ProductOf (both_parts (known (time g.rule)) g.addition)) NoParts) NoParts

-- the size of the members of a loop that `base` enters, with these growths by its rules
abbrev pub composed : (ℕ → Option Bound) → Bound → List Growth → Bound
composed time base gs =
    ProductOf (joined (all_joined (power_part time) gs)
    (Part (SumOf (Part base (all_joined (addition_part time) gs))) NoParts))
