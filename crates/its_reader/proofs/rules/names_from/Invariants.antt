use Rattle.std.proofs.Common.{◌≡◌, ◌-◌, length, map, ◌++◌}
use Rattle.std.specs.Prelude.{drop}
use Rattle.its_model.specs.Views.{name_of}
use Rattle.expr_reader.specs.Variables.{names_in}
use Rattle.its_reader.proofs.rules.names_from.Given as goal

abbrev pub invariant-loop-name : goal.invariant-loop-name
invariant-loop-name l = map name_of l.names.items ++ drop (length l.names.items) (names_in l.variables)
    ≡ names_in l.variables

abbrev pub decreases-loop-name : goal.decreases-loop-name
decreases-loop-name l = length (names_in l.variables) - length l.names.items
