use Rattle.std.proofs.Common.{◌≡◌, drop, map}
use Rattle.cert_types.specs.Views.{result_variable_of}
use Rattle.rvg_components.specs.Listing.{answer_lists, local_from}
use Rattle.time_bounds.specs.ProgramSizes.{first_reason, unbounded_reason}
use Rattle.time_bounds.proofs.candidates.first_unbounded.Given as goal

-- the result is that of the remaining places
abbrev pub invariant-loop-result_variable : goal.invariant-loop-result_variable
invariant-loop-result_variable l =
    first_reason unbounded_reason (local_from (answer_lists l.locals)) (map result_variable_of (drop l.result_variable-index l.result_variables))
    ≡ first_reason unbounded_reason (local_from (answer_lists l.locals)) (map result_variable_of l.result_variables)
