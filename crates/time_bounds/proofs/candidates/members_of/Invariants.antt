use Rattle.std.proofs.Common.{take, map}
use Rattle.cert_types.specs.Views.{result_variable_of, member_of}
use Rattle.rvg_components.specs.Listing.{answer_lists, local_from}
use Rattle.time_bounds.specs.ProgramSizes.{AreMembers}
use Rattle.time_bounds.proofs.candidates.members_of.Given as goal

abbrev pub invariant-loop-result_variable : goal.invariant-loop-result_variable
invariant-loop-result_variable l = AreMembers (local_from (answer_lists l.locals)) (map result_variable_of (take l.result_variable-index l.result_variables)) (map member_of l.members.items)
