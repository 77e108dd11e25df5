use Rattle.std.proofs.Common.{◌≡◌, drop, map}
use Rattle.potential_nodes.specs.Checks.{first_refused}
use Rattle.potential_nodes.specs.Tables.{move_check}
use Rattle.check_potentials.specs.Amounts.{amount_of}
use Rattle.check_potentials.specs.Grounds.{plain_ground}
use Rattle.potential_types.specs.Views.{move_of, payment_of, table_of}
use Rattle.check_potentials.proofs.moves.unshown_move.Given as goal

-- what is left decides
abbrev pub invariant-loop-step : goal.invariant-loop-step
invariant-loop-step l =
    first_refused (map (move_check (plain_ground l.ground) (table_of l.table) (amount_of (map payment_of l.payments)))
    (map move_of (drop l.step-index l.moves)))
    ≡ first_refused (map (move_check (plain_ground l.ground) (table_of l.table) (amount_of (map payment_of l.payments)))
    (map move_of l.moves))
