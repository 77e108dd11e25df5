use Rattle.std.proofs.Common.{◌≡◌, map}
use Rattle.std.specs.List.{range_with_len}
use Rattle.cert_types.specs.Views.{result_variable_of}
use Rattle.bound_fixpoint.specs.Keys.{key}
use Rattle.time_bounds.proofs.beginning.place_keys.Given as goal

abbrev pub invariant-loop-position : goal.invariant-loop-position
invariant-loop-position l = map result_variable_of l.keys.items ≡ map (λ i. key l.rule i) (range_with_len 1 l.position)
