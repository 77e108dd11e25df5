-- The answer on a size, apart from the lemmas of its premises: the keys of the bounds that a node needs, and its bound;
-- or the first reason why there is none.
use Rattle.std.specs.Prelude.{◌≡◌, ℕ, List, [], ◌∷◌, ◌++◌, map, Option, Some, None}
use Rattle.model.specs.Bounds.{Bound}
use Rattle.bound_expr.specs.Views.{bound_of}
use Rattle.bound_table.specs.InForce.{rewritten}
use Rattle.cert_types.specs.cert_rules.Nodes.{ResultVariable, Member}
use Rattle.cert_types.specs.cert_rules.Setting.{Setting}
use Rattle.cert_types.specs.cert_rules.Known.{Table}
use Rattle.cert_types.specs.cert_rules.Limits.{IsSmallComposed}
use Rattle.cert_types.specs.cert_rules.AcceptsSizes.{AcceptsSpread, AcceptsCycle, spread_size, cycle_size}
use Rattle.cert_types.specs.cert_rules.Reasons.{MissingTime, MissingSize, Nonlinear, Large, IsFirstAmong}
use Rattle.cert_types.specs.cert_rules.Checks.{large_nodes, spread_checks, cycle_checks, needed_into, needed_times}
use Rattle.cert_types.specs.Views.{result_variable_of}
use Rattle.size_nodes.specs.declared.sizing.Sizing.{Sizing}
use Rattle.size_nodes.specs.declared.sizing.Sizing.TheVariants as sizings
use Rattle.size_nodes.specs.Growths.{Growth, growing_rule_numbers, composed}
use Rattle.size_nodes.specs.Needs.{first_unknown}

-- the key of the time of a rule: its place is 0
abbrev pub time_key : ℕ → ResultVariable
time_key t = record { rule = t; place = 0 }

-- the premises of a loop node: the keys of the sizes that the members' side bounds read outside the loop, member by
-- member, and then of the times of the rules that multiply or add
abbrev pub loop_premises : Setting → Table → List Member → List ResultVariable
loop_premises s tab members = needed_into s members members ++ map time_key (needed_times s tab members)

-- the answer for a place that doesn't loop: the sizes that the node needs, which is accepted, and its bound; or the
-- first check of the node that fails
abbrev pub IsSpreadSizing : Setting → Table → Member → Sizing → Type 0
IsSpreadSizing s tab m (sizings.Found premises bound) = AcceptsSpread s tab m
    × (map result_variable_of premises.items ≡ needed_into s [] (m ∷ [])) × (bound_of bound ≡ s.rewrite (spread_size s tab m))
IsSpreadSizing s tab m (sizings.Missing result_variable) =
    IsFirstAmong (spread_checks s tab m) (MissingSize result_variable.rule result_variable.place)
IsSpreadSizing s tab m (sizings.Nonlinear result_variable) = ⊥
IsSpreadSizing s tab m (sizings.Untimed rule) = ⊥
IsSpreadSizing s tab m (sizings.Large nodes) = IsFirstAmong (spread_checks s tab m) (Large nodes)

-- the answer for the members of a loop, with one bound for all; the times that the node needs come after the sizes
abbrev pub IsCycleSizing : Setting → Table → List Member → Sizing → Type 0
IsCycleSizing s tab members (sizings.Found premises bound) = AcceptsCycle s tab members
    × (map result_variable_of premises.items ≡ loop_premises s tab members)
    × (bound_of bound ≡ s.rewrite (cycle_size s tab members))
IsCycleSizing s tab members (sizings.Missing result_variable) =
    IsFirstAmong (cycle_checks s tab members) (MissingSize result_variable.rule result_variable.place)
IsCycleSizing s tab members (sizings.Nonlinear result_variable) =
    IsFirstAmong (cycle_checks s tab members) (Nonlinear result_variable.rule result_variable.place)
IsCycleSizing s tab members (sizings.Untimed rule) = IsFirstAmong (cycle_checks s tab members) (MissingTime rule)
IsCycleSizing s tab members (sizings.Large nodes) = IsFirstAmong (cycle_checks s tab members) (Large nodes)

-- the answer for a loop whose needed sizes and times are known, by its composed bound
abbrev pub IsTimedSizing : List ResultVariable → Bound → Sizing → Type 0
IsTimedSizing premises b (sizings.Found found bound) =
    IsSmallComposed rewritten b × (map result_variable_of found.items ≡ premises) × (bound_of bound ≡ rewritten b)
IsTimedSizing premises b (sizings.Missing result_variable) = ⊥
IsTimedSizing premises b (sizings.Nonlinear result_variable) = ⊥
IsTimedSizing premises b (sizings.Untimed rule) = ⊥
IsTimedSizing premises b (sizings.Large nodes) =
    (¬ (IsSmallComposed rewritten b)) × (nodes ≡ large_nodes rewritten b)

-- the size is the answer if each rule that multiplies or adds has a time; else the answer names the first such rule
-- without a time
abbrev pub IsSizingWhere : Option ℕ → List ResultVariable → Bound → Sizing → Type 0
IsSizingWhere None premises b a = IsTimedSizing premises b a
IsSizingWhere (Some t) premises b a = a ≡ sizings.Untimed t

-- the answer for a loop whose needed sizes are known and that isn't nonlinear, by the sizes that enter it and the
-- growth by its rules
abbrev pub IsLoopSizing : Table → List ResultVariable → Bound → List Growth → Sizing → Type 0
IsLoopSizing tab needed base gs a =
    IsSizingWhere (first_unknown tab.time (growing_rule_numbers gs))
    (needed ++ map time_key (growing_rule_numbers gs)) (composed tab.time base gs) a
