use Rattle.std.proofs.Common.{◌≡◌, map, take}
use Rattle.cert_types.specs.Views.{rank_of, result_variable_of}
use Rattle.cert_types.specs.cert_rules.Checks.{needed_after_each}
use Rattle.cert_context.specs.CheckContexts.{setting}
use Rattle.check_ranks.proofs.reading.needed_result_variables.Given as goal

-- the places are those read after the entries before this one
abbrev pub invariant-loop-entry : goal.invariant-loop-entry
invariant-loop-entry l =
    map result_variable_of l.result_variables.items ≡ needed_after_each (setting l.context) (rank_of l.node) (take l.entry-index l.entering)
