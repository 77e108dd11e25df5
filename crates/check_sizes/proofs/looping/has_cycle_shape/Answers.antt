use Rattle.std.proofs.Common.{◌∙◌, sym}
use Rattle.check_sizes.proofs.MemberShapes.{some-there}
use Rattle.check_sizes.proofs.looping.has_cycle_shape.Goals as goal

pub returns-then-not-ascend : goal.returns-then-not-ascend
returns-then-not-ascend c = (
  λ e. absurd (let no : ⊥ = cc in no),
  λ h. absurd (let f = c.if-not-ascend.ensures.1 h.ascending in let no : ⊥ = cc in no),
)

pub returns : goal.returns
returns c = (
  λ e. record {
    some = some-there c.args.members.now (sym c.is_empty.ensures ∙ c.if-is_empty.false);
    ascending = c.ascend.ensures.0 c.if-not-ascend.false;
    each = c.have_member_shapes.ensures.0 e;
  },
  λ h. c.have_member_shapes.ensures.1 h.each,
)
