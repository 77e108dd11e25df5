use Rattle.std.proofs.Common.{◌≤◌}
use Rattle.simplex_core.specs.Scaling.{IsLeastCommon}
use Rattle.simplex_core.proofs.scaling.least_common_denominator.Given as goal

abbrev pub invariant-loop-position : goal.invariant-loop-position
invariant-loop-position l = IsLeastCommon l.fractions l.position l.den × (l.den ≤ l.limit)
