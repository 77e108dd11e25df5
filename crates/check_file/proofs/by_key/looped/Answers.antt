use Rattle.std.proofs.Common.{map, subst}
use Rattle.cert_types.specs.Views.{member_of}
use Rattle.cert_types.specs.cert_rules.AcceptsSizes.{cycle_facts, cycle_size}
use Rattle.cert_types.specs.cert_rules.Checks.{cycle_checks}
use Rattle.cert_types.specs.cert_rules.Known.{Table}
use Rattle.cert_context.specs.CheckContexts.{setting}
use Rattle.check_file.proofs.KeyedNodes.{GivenOver}
use Rattle.check_file.proofs.by_key.looped.Goals as goal

pub returns : goal.returns
returns c =
    let s = setting c.args.context.now in
    let n = map member_of c.args.node.now.members.items in
    subst (λ (known : Table). GivenOver (λ t. cycle_checks s t n) (λ t. cycle_facts (s.rewrite (cycle_size s t n)) n) known c.cycle_facts.result)
    c.in_ok-known.ensures c.cycle_facts.ensures
