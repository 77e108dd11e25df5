use Rattle.std.proofs.Common.{◌≡◌, drop}
use Rattle.size_nodes.specs.Needs.{first_unknown}
use Rattle.size_nodes.proofs.missing.first_untimed.Given as goal

abbrev pub invariant-loop-rule : goal.invariant-loop-rule
invariant-loop-rule g l =
    first_unknown (g.K.Known.table l.known).time (drop l.rule-index l.rules) ≡ first_unknown (g.K.Known.table l.known).time l.rules
