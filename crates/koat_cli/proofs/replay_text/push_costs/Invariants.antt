use Rattle.std.proofs.Common.{◌≡◌, ◌+◌, ◌++◌, drop}
use Rattle.koat_cli.specs.Steps.{cost_lines}
use Rattle.koat_cli.proofs.replay_text.push_costs.Given as goal

-- the written lines and the remaining ones are the whole
abbrev pub invariant-loop-i : goal.invariant-loop-i
invariant-loop-i l =
    l.text.items ++ cost_lines l.at (l.i + 1) (drop l.i l.spent) (drop l.i l.costs)
    ≡ l.initial.text.items ++ cost_lines l.at 1 l.spent l.costs
