use Rattle.signed_values.proofs.Lists.{start_with-next}
use Rattle.signed_values.proofs.starts.comparison_starts.Goals as goal

pub loop-argument-preserved : goal.loop-argument-preserved
loop-argument-preserved c =
    start_with-next c.args.arguments c.loop-argument.argument _ _ c.in_ok-push_starts_of_argument.ensures
    c.loop-argument.invariant
