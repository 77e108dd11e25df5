use Rattle.std.proofs.Common.{◌≡◌, ◌++◌, ◌-◌, length, suc}
use Rattle.std.specs.Prelude.{filter}
use Rattle.std.specs.List.{range_with_len}
use Rattle.potential_nodes.specs.potentials.model.Paths.{comes_before, pre}
use Rattle.check_potentials.specs.Grounds.{program}
use Rattle.check_potentials.proofs.sized.predecessors.Given as goal

-- those found, and those that are left to look at
abbrev pub invariant-loop-before : goal.invariant-loop-before
invariant-loop-before l =
    l.befores.items ++ filter (λ e. comes_before (program l.ground) e l.rule)
    (range_with_len l.before (suc (length (program l.ground).rules) - l.before))
    ≡ pre (program l.ground) l.rule
