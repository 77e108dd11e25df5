use Rattle.std.proofs.Common.{◌∙◌, ◌++◌, ◌∷◌, ◌+◌, [], List, ap, sym}
use Rattle.bound_expr.proofs.Views.{bound_of-Const}
use Rattle.model.specs.Bounds.{Constant}
use Rattle.model.specs.Facts as plain
use Rattle.cert_context.proofs.PlaceFacts.{zero-more, facts-pushed}
use Rattle.cert_context.proofs.stating.zero_sizes.Goals as goal

pub loop-position-preserved : goal.loop-position-preserved
loop-position-preserved c =
    facts-pushed _ _ _ (plain.Size c.args.rule (c.loop-position.position + 1) (Constant 0)) c.in_ok-push.ensures.items
    (ap (plain.Size c.args.rule (c.loop-position.position + 1)) (bound_of-Const 0))
    ∙ (ap (λ (fs : List plain.Fact). fs ++ plain.Size c.args.rule (c.loop-position.position + 1) (Constant 0) ∷ [])
    c.loop-position.invariant ∙ sym (zero-more c.args.rule c.loop-position.position))
