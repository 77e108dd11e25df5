use Rattle.std.proofs.Common.{◌≡◌, map, take}
use Rattle.its_model.specs.Views.{program_of}
use Rattle.cert_types.specs.Views.{rank_of, result_variable_of}
use Rattle.bound_fixpoint.specs.Needs.{premises_of_all}
use Rattle.time_bounds.proofs.premises.rank_premises.Given as goal

abbrev pub invariant-loop-entry : goal.invariant-loop-entry
invariant-loop-entry l =
    map result_variable_of l.premises.items ≡ premises_of_all (program_of l.p) (rank_of l.node) (take l.entry-index l.entry-items)
