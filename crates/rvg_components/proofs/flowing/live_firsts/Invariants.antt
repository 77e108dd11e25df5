use Rattle.std.proofs.Common.{◌≡◌, ◌++◌, drop}
use Rattle.rvg_components.specs.Edges.{firsts_of}
use Rattle.rvg_components.proofs.flowing.live_firsts.Given as goal

-- the first places so far and those of the remaining rules are all
abbrev pub invariant-loop-rule : goal.invariant-loop-rule
invariant-loop-rule l =
    l.found.items ++ firsts_of l.live l.firsts (drop l.rule-index l.rules) ≡ firsts_of l.live l.firsts l.rules
