use Rattle.std.proofs.Common.{map, refl, sym, subst, arith}
use Rattle.std.specs.List.{All}
use Rattle.std.proofs.lemmas.List.Elements.{All-push, recursion_from_All}
use Rattle.cert_types.specs.Views.{member_of}
use Rattle.cert_types.specs.cert_rules.AcceptsSizes.{HasMemberShape}
use Rattle.cert_context.specs.CheckContexts.{setting}
use Rattle.cert_context.proofs.Cuts.{done-more, done-all, each-at}
use Rattle.check_sizes.proofs.looping.have_member_shapes.Goals as goal

pub returns-then-not-fits : goal.returns-then-not-fits
returns-then-not-fits c = (
  λ e. absurd (let no : ⊥ = cc in no),
  λ h. absurd (let f = c.has_member_shape-fits.ensures.1 (each-at member_of (HasMemberShape (setting c.args.context.now)) c.args.members.now
      c.loop-member.member-index c.member-item.result c.loop-member-test.true c.member-item.is
      (recursion_from_All (HasMemberShape (setting c.args.context.now)) (map member_of c.args.members.now) h)) in let no : ⊥ = cc in no),
)

pub loop-member-preserved : goal.loop-member-preserved
loop-member-preserved c =
    subst (All (HasMemberShape (setting c.args.context.now)))
    (sym (done-more member_of c.args.members.now c.loop-member.member-index c.member-item.result c.loop-member-test.true c.member-item.is))
    (All-push (HasMemberShape (setting c.args.context.now)) _ (member_of c.member-item.result) c.loop-member.invariant
    (c.has_member_shape-fits.ensures.0 c.if-not-fits.false))

pub returns : goal.returns
returns c = (
  λ e. subst (All (HasMemberShape (setting c.args.context.now)))
      (done-all member_of c.args.members.now c.loop-member.member-index (omega (arith, c.loop-member-test.false))) c.loop-member.invariant,
  λ h. refl,
)
