use Rattle.claims_check.proofs.BelowLaws.{from-next}
use Rattle.claims_check.proofs.below.own_rules.Goals as goal

pub loop-i-preserved : goal.loop-i-preserved
loop-i-preserved c =
    from-next c.loop-i.i c.loop-i.below.items c.push.new.self.items c.in_ok-push.ensures.items c.loop-i.invariant
