use Rattle.std.proofs.Common.{◌≡◌, drop}
use Rattle.std.specs.List.{list_all}
use Rattle.std.specs.Prelude.{nat_lt}
use Rattle.local_size.proofs.polynomial.are_below.Given as goal

-- the remaining variables decide
abbrev pub invariant-loop-variable : goal.invariant-loop-variable
invariant-loop-variable l =
    list_all (λ v. nat_lt v l.left) (drop l.variable-index l.variables) ≡ list_all (λ v. nat_lt v l.left) l.variables
