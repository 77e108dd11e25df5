use Rattle.cert_types.specs.cert_rules.AcceptsPlain.{IsRule}
use Rattle.cert_types.proofs.cert_rules.CheckLists.{each-in}
use Rattle.cert_context.specs.CheckContexts.{program}
use Rattle.check_ranks.proofs.rank_shape.has_numbers.Goals as goal

pub are_multipliers-requires-clause-rule : goal.are_multipliers-requires-clause-rule
are_multipliers-requires-clause-rule c =
    each-in (IsRule (program c.args.context.now)) c.args.node.now.set.items c.requires.set.rules c.args.node.now.rule
    c.requires.set.inside
