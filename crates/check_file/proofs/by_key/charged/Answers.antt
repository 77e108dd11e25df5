use Rattle.std.proofs.Common.{[], ◌∷◌, subst}
use Rattle.model.specs.Facts.{Cost}
use Rattle.check_sizes.specs.Costs.{cost_node}
use Rattle.cert_types.specs.cert_rules.AcceptsCosts.{node_cost}
use Rattle.cert_types.specs.cert_rules.Checks.{cost_checks}
use Rattle.cert_types.specs.cert_rules.Known.{Table}
use Rattle.cert_context.specs.CheckContexts.{setting}
use Rattle.check_file.proofs.KeyedNodes.{GivenOver}
use Rattle.check_file.proofs.by_key.charged.Goals as goal

pub returns : goal.returns
returns c =
    let s = setting c.args.context.now in
    let n = cost_node c.args.node.now in
    subst (λ (known : Table). GivenOver (λ t. cost_checks s t n) (λ t. Cost n.rule (node_cost s t n) ∷ []) known c.cost_facts.result)
    c.in_ok-known.ensures c.cost_facts.ensures
