use Rattle.std.proofs.Common.{refl}
use Rattle.bound_text.specs.Steps.{beginning}
use Rattle.cert_lexer.specs.Packed.{inners_in}
use Rattle.cert_lexer.proofs.FollowerLaws.{reaches_end, reaches_off, reaches_on}
use Rattle.cert_lexer.proofs.follower.deep_part.Goals as goal

pub loop-inner-init : goal.loop-inner-init
loop-inner-init c = record { state = beginning; represents = c.in_ok-follower.ensures; stops = refl }

pub loop-inner-preserved : goal.loop-inner-preserved
loop-inner-preserved c =
    reaches_on (inners_in c.args.pieces) (inners_in c.loop-inner.rest) (inners_in c.in-Some.behind) c.in-Some.inner c.loop-inner.follower
    c.take.new.self c.in_ok-accepted.accepted c.loop-inner.invariant c.in-Some.ensures c.if-accepted.true c.in_ok-accepted.ensures

pub returns-else-accepted : goal.returns-else-accepted
returns-else-accepted c =
    reaches_off (inners_in c.args.pieces) (inners_in c.loop-inner.rest) (inners_in c.in-Some.behind) c.in-Some.inner c.loop-inner.follower
    c.take.new.self c.in_ok-accepted.accepted c.deep_part.result c.loop-inner.invariant c.in-Some.ensures c.if-accepted.false
    c.in_ok-accepted.ensures c.deep_part.ensures

pub returns : goal.returns
returns c =
    reaches_end (inners_in c.args.pieces) (inners_in c.loop-inner.rest) c.loop-inner.follower c.deep_part-2.result
    c.loop-inner.invariant c.in_default.ensures c.deep_part-2.ensures
