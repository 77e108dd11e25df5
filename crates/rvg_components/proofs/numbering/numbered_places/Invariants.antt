use Rattle.std.proofs.Common.{◌≡◌, ◌++◌, suc, map, drop}
use Rattle.cert_types.specs.Views.{result_variable_of}
use Rattle.rvg_components.specs.Numbering.{result_variables_by_width}
use Rattle.rvg_components.proofs.numbering.numbered_places.Given as goal

-- the places so far and those of the remaining rules are all
abbrev pub invariant-loop-position : goal.invariant-loop-position
invariant-loop-position l =
    map result_variable_of l.result_variables.items ++ result_variables_by_width (suc l.position) (drop l.position l.widths) ≡ result_variables_by_width 1 l.widths
