use Rattle.std.proofs.Common.{◌∙◌, sym, ap}
use Rattle.bound_expr.specs.Views.{bound_of}
use Rattle.cert_types.specs.Views.{fact_of}
use Rattle.cert_context.proofs.Keys.{size-entered}
use Rattle.cert_context.proofs.joining.enter_size.Goals as goal

pub returns-in_ok-insert-in-Size : goal.returns-in_ok-insert-in-Size
returns-in_ok-insert-in-Size c =
    size-entered c.args.sizes.now c.insert.new.self c.in-Size.rule c.in-Size.place c.args.position
    (bound_of c.in-Size.bound) (fact_of c.args.fact.now) (ap fact_of c.in-Size.is)
    (sym c.contains_key.ensures ∙ c.if-not-contains_key.true) c.in_ok-insert-in-Size.ensures.updates.0
