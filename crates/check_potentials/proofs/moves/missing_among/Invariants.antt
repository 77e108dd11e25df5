use Rattle.std.proofs.Common.{◌≡◌, ◌+◌, drop, map}
use Rattle.its_model.specs.Views.{rule_of}
use Rattle.potential_nodes.specs.Checks.{first_refused}
use Rattle.potential_nodes.specs.Facts.{is_never}
use Rattle.potential_nodes.specs.Tables.{missing_from}
use Rattle.potential_types.specs.Views.{fact_view, table_of}
use Rattle.check_potentials.proofs.moves.missing_among.Given as goal

-- the rules that are left decide
abbrev pub invariant-loop-i : goal.invariant-loop-i
invariant-loop-i l =
    first_refused (missing_from (table_of l.table) (is_never (map fact_view l.known.facts.now)) (l.i + 1)
    (map rule_of (drop l.i l.rules)))
    ≡ first_refused (missing_from (table_of l.table) (is_never (map fact_view l.known.facts.now)) 1
    (map rule_of l.rules))
