use Rattle.std.proofs.Common.{◌≡◌}
use Rattle.std.specs.List.{range_with_len}
use Rattle.local_size.proofs.problem.places_and_constant.Given as goal

-- the list has the places so far
abbrev pub invariant-loop-before : goal.invariant-loop-before
invariant-loop-before l = l.places.items ≡ range_with_len 1 l.before
