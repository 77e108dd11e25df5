use Rattle.std.proofs.Common.{◌≡◌, ◌++◌, map}
use Rattle.cert_types.specs.Views.{result_variable_of}
use Rattle.check_ranks.proofs.ReadPlaces.{read_among}
use Rattle.check_ranks.proofs.reading.push_read.Given as goal

-- the places are those before this one that are read
abbrev pub invariant-loop-position : goal.invariant-loop-position
invariant-loop-position l =
    map result_variable_of l.result_variables.items ≡ map result_variable_of l.initial.result_variables.items ++ read_among l.coefs l.rule l.position
