use Rattle.std.proofs.Common.{[], ◌∷◌, subst}
use Rattle.model.specs.Facts.{Size}
use Rattle.check_sizes.specs.SizeAnswers.{spread_member}
use Rattle.cert_types.specs.cert_rules.AcceptsSizes.{spread_size}
use Rattle.cert_types.specs.cert_rules.Checks.{spread_checks}
use Rattle.cert_types.specs.cert_rules.Known.{Table}
use Rattle.cert_context.specs.CheckContexts.{setting}
use Rattle.check_file.proofs.KeyedNodes.{GivenOver}
use Rattle.check_file.proofs.by_key.spread.Goals as goal

pub returns : goal.returns
returns c =
    let s = setting c.args.context.now in
    let n = spread_member c.args.node.now in
    subst (λ (known : Table). GivenOver (λ t. spread_checks s t n) (λ t. Size n.result_variable.rule n.result_variable.place (s.rewrite (spread_size s t n)) ∷ []) known c.spread_facts.result)
    c.in_ok-known.ensures c.spread_facts.ensures
