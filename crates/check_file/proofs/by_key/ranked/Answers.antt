use Rattle.std.proofs.Common.{[], ◌∷◌, subst}
use Rattle.model.specs.Facts.{Time}
use Rattle.cert_types.specs.Views.{rank_of}
use Rattle.cert_types.specs.cert_rules.AcceptsRank.{rank_time}
use Rattle.cert_types.specs.cert_rules.Checks.{rank_checks}
use Rattle.cert_types.specs.cert_rules.Known.{Table}
use Rattle.cert_context.specs.CheckContexts.{setting}
use Rattle.check_file.proofs.KeyedNodes.{GivenOver}
use Rattle.check_file.proofs.by_key.ranked.Goals as goal

pub returns : goal.returns
returns c =
    let s = setting c.args.context.now in
    let n = c.args.node.now in
    subst (λ (known : Table). GivenOver (λ t. rank_checks s t (rank_of n)) (λ t. Time n.rule (s.rewrite (rank_time s (rank_of n) t)) ∷ []) known c.rank_facts.result)
    c.in_ok-known.ensures c.rank_facts.ensures
