use Rattle.std.proofs.Common.{take}
use Rattle.std.specs.List.{All}
use Rattle.cert_types.specs.Views.{rank_of}
use Rattle.cert_types.specs.cert_rules.AcceptsRank.{Loses}
use Rattle.cert_context.specs.CheckContexts.{setting}
use Rattle.check_ranks.proofs.losing.first_rising.Given as goal

-- the function decreases as required by the rules before this one
abbrev pub invariant-loop-i : goal.invariant-loop-i
invariant-loop-i l = All (Loses (setting l.context) (rank_of l.node)) (take l.i l.node.set.items)
