use Rattle.std.proofs.Common.{take, map}
use Rattle.std.specs.List.{All}
use Rattle.cert_types.specs.cert_rules.AcceptsPlain.{AreMultipliers}
use Rattle.cert_types.specs.cert_rules.AcceptsRank.{moves_of}
use Rattle.cert_context.specs.CheckContexts.{setting}
use Rattle.check_ranks.proofs.rank_shape.are_moves.Given as goal

-- the rules before this one have their multipliers
abbrev pub invariant-loop-i : goal.invariant-loop-i
invariant-loop-i l =
    All (λ t. AreMultipliers (setting l.context) t (moves_of l.set (map (λ m. m.items) l.moves) t)) (take l.i l.set)
