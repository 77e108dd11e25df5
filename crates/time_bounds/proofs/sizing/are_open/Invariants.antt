use Rattle.std.proofs.Common.{◌≡◌, false, map, take}
use Rattle.cert_types.specs.Views.{result_variable_of}
use Rattle.bound_fixpoint.specs.Answers.{are_open}
use Rattle.size_bounds.specs.Tables.{bounds_in}
use Rattle.time_bounds.proofs.sizing.are_open.Given as goal

abbrev pub invariant-loop-result_variable : goal.invariant-loop-result_variable
invariant-loop-result_variable l = are_open (bounds_in l.table) (map result_variable_of (take l.result_variable-index l.result_variables)) ≡ false
