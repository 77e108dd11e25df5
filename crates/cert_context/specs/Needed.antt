-- The bounds that a node needs.
use Rattle.std.specs.Prelude.{ℕ}
use Rattle.cert_types.specs.cert_rules.Known.{IsKnown, Table}
use Rattle.cert_types.specs.cert_rules.Nodes.{ResultVariable}

-- the time of the rule is known
abbrev pub HasTime : Table → ℕ → Type 0
HasTime table t = IsKnown (table.time t)

-- the size of the result variable is known
abbrev pub HasSize : Table → ResultVariable → Type 0
HasSize table result_variable = IsKnown (table.size result_variable.rule result_variable.place)
