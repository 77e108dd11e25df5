-- The tables of two phases.
use Rattle.std.specs.Prelude.{◌≡◌, ℕ, if◌then◌else◌, List, [], map}
use Rattle.potential_nodes.specs.potentials.model.Polynomials.{Polynomial}
use Rattle.potential_nodes.specs.Lookup.{lookup, is_there}
use Rattle.potential_nodes.specs.Ground.{Ground}
use Rattle.potential_nodes.specs.Tables.{PotentialTable, source_form}
use Rattle.potential_nodes.specs.Falls.{Payment, payer}
use Rattle.potential_nodes.specs.PhaseNodes.{PhasesNode, first_table, second_table, unit_payment}
use Rattle.potential_types.specs.Views.{payment_of, table_of}
use Rattle.check_potentials.specs.declared.phases.Phases.{Phases}

-- what the second function gains by a rule: the first function of its source, if the rule is counted
abbrev pub gain_of_second : Ground → PotentialTable → List Payment → ℕ → Polynomial
gain_of_second g first payments t = if is_there (lookup payer t payments) then source_form g first t else []

-- the tables of a node, and what it counts, as payments of 1
pub record ArePhasesOf (g : Ground) (n : PhasesNode) (tables : Phases) : Type 0 where
  pub first : table_of tables.first ≡ first_table n
  pub second : table_of tables.second ≡ second_table g n
  pub payments : map payment_of tables.payments.items ≡ map unit_payment n.counted
