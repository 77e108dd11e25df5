use Rattle.moving_check.proofs.Places.{change-found}
use Rattle.moving_check.proofs.between.changed_place.Goals as goal

pub returns-else-env-behind : goal.returns-else-env-behind
returns-else-env-behind c =
    change-found c.args.env.now c.args.behind.now c.loop-i.i c.min-both.result c.min-both.ensures c.loop-i-test.false
    c.loop-i.auto.i-end c.if-env-behind.false c.loop-i.invariant
