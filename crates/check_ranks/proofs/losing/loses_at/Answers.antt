use Rattle.std.proofs.Common.{◌≡◌, ◌∙◌, subst, sym, get_or}
use Rattle.std.proofs.lemmas.List.{get_or_default}
use Rattle.std.proofs.lemmas.Result.{IfOk-weaker}
use Rattle.cert_types.specs.cert_rules.AcceptsPlain.{IsRule}
use Rattle.cert_types.specs.cert_rules.Limits.{AreInLimit}
use Rattle.cert_context.specs.CheckContexts.{program}
use Rattle.check_ranks.proofs.LossRows.{loses-by, moves-limited, rule-there}
use Rattle.check_ranks.proofs.losing.loses_at.Goals as goal

pub is_losing-requires-clause-rule : goal.is_losing-requires-clause-rule
is_losing-requires-clause-rule c =
    let xs = c.args.node.now.set.items in
    let same : get_or xs c.args.position 0 ≡ c.index.result.now =
    get_or_default xs c.args.position 0 c.index.result.now c.requires.within ∙ sym c.index.ensures in
    subst (IsRule (program c.args.context.now)) same
    (rule-there (program c.args.context.now) c.args.node.now c.requires.shape c.args.position c.index-2.result.now
    c.requires.within c.index-2.ensures)

pub is_losing-requires-clause-limit : goal.is_losing-requires-clause-limit
is_losing-requires-clause-limit c =
    subst AreInLimit (sym c.deref.ensures.value)
    (moves-limited (program c.args.context.now) c.args.node.now c.requires.shape c.args.position c.index-2.result.now
    c.requires.within c.index-2.ensures
    (rule-there (program c.args.context.now) c.args.node.now c.requires.shape c.args.position c.index-2.result.now
    c.requires.within c.index-2.ensures))

pub returns : goal.returns
returns c =
    let xs = c.args.node.now.set.items in
    let same : get_or xs c.args.position 0 ≡ c.index.result.now =
    get_or_default xs c.args.position 0 c.index.result.now c.requires.within ∙ sym c.index.ensures in
    IfOk-weaker c.is_losing.result _ _
    (λ b h. loses-by (program c.args.context.now) c.args.node.now c.requires.shape c.args.position c.index-2.result.now
    c.requires.within c.index-2.ensures b c.index.result.now c.deref.result.now (sym same) c.deref.ensures.value h)
    c.is_losing.ensures
