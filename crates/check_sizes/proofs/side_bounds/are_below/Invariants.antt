use Rattle.std.proofs.Common.{◌<◌, take}
use Rattle.std.specs.List.{All}
use Rattle.check_sizes.proofs.side_bounds.are_below.Given as goal

-- the variables before this one are below
abbrev pub invariant-loop-variable : goal.invariant-loop-variable
invariant-loop-variable l = All (λ v. v < l.left) (take l.variable-index l.variables)
