use Rattle.std.proofs.Common.{map, arith, subst, sym}
use Rattle.std.specs.List.{All}
use Rattle.std.proofs.lemmas.List.Elements.{All-push, recursion_from_All}
use Rattle.cert_types.specs.Views.{member_of}
use Rattle.cert_types.specs.cert_rules.AcceptsSizes.{AcceptsLow, HasMemberShape}
use Rattle.cert_context.specs.CheckContexts.{setting}
use Rattle.cert_context.proofs.Cuts.{done-more, each-at}
use Rattle.cert_context.proofs.NeededBounds.{has-all, lacks-here}
use Rattle.check_sizes.proofs.looping.first_refused_low.Goals as goal

pub accepts_low-requires-clause-shape : goal.accepts_low-requires-clause-shape
accepts_low-requires-clause-shape c =
    each-at member_of (HasMemberShape (setting c.args.context.now)) c.args.members.now c.loop-member.member-index
    c.member-item.result c.loop-member-test.true c.member-item.is
    (recursion_from_All (HasMemberShape (setting c.args.context.now)) (map member_of c.args.members.now) c.requires.shapes)

pub returns-then-not-fits : goal.returns-then-not-fits
returns-then-not-fits c =
    lacks-here member_of (AcceptsLow (setting c.args.context.now)) c.args.members.now c.loop-member.member-index
    c.member-item.result c.loop-member-test.true c.member-item.is c.loop-member.invariant
    (λ h. let f = c.in_ok-fits.ensures.1 h in let no : ⊥ = cc in no)

pub loop-member-preserved : goal.loop-member-preserved
loop-member-preserved c =
    subst (All (AcceptsLow (setting c.args.context.now)))
    (sym (done-more member_of c.args.members.now c.loop-member.member-index c.member-item.result c.loop-member-test.true c.member-item.is))
    (All-push (AcceptsLow (setting c.args.context.now)) _ (member_of c.member-item.result) c.loop-member.invariant
    (c.in_ok-fits.ensures.0 c.if-not-fits.false))

pub returns : goal.returns
returns c =
    has-all member_of (AcceptsLow (setting c.args.context.now)) c.args.members.now c.loop-member.member-index
    (omega (arith, c.loop-member-test.false)) c.loop-member.invariant
