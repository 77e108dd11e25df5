use Rattle.std.proofs.Common.{◌∙◌, ◌++◌, ◌∷◌, ◌+◌, [], List, ap, sym}
use Rattle.bound_expr.proofs.Views.{bound_of-Var}
use Rattle.model.specs.Bounds.{Constant, Input}
use Rattle.model.specs.Facts as plain
use Rattle.cert_context.proofs.PlaceFacts.{start-more, facts-pushed}
use Rattle.cert_context.proofs.stating.start_facts.Goals as goal

pub loop-position-preserved : goal.loop-position-preserved
loop-position-preserved c =
    facts-pushed _ _ _ (plain.Size 0 (c.loop-position.position + 1) (Input c.loop-position.position)) c.in_ok-push-2.ensures.items
    (ap (plain.Size 0 (c.loop-position.position + 1)) (bound_of-Var c.loop-position.position))
    ∙ (ap (λ (fs : List plain.Fact). fs ++ plain.Size 0 (c.loop-position.position + 1) (Input c.loop-position.position) ∷ [])
    c.loop-position.invariant
    ∙ ap (λ (fs : List plain.Fact). plain.Time 0 (Constant 1) ∷ fs) (sym (start-more c.loop-position.position)))
