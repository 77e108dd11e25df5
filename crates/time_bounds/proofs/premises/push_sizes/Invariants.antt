use Rattle.std.proofs.Common.{◌≡◌, ◌++◌, map, take}
use Rattle.cert_types.specs.Views.{result_variable_of}
use Rattle.bound_fixpoint.specs.Keys.{key}
use Rattle.bound_fixpoint.specs.Needs.{read_places}
use Rattle.time_bounds.proofs.premises.push_sizes.Given as goal

abbrev pub invariant-loop-position : goal.invariant-loop-position
invariant-loop-position l =
    map result_variable_of l.premises.items
    ≡ map result_variable_of l.initial.premises.items ++ map (λ i. key l.entry i) (read_places 1 (take l.position l.coefs))
