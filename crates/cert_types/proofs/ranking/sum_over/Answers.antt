use Rattle.std.proofs.Common.{◌≤◌, ◌∙◌, length, ap, arith}
use Rattle.poly_terms.specs.model.Bounds.{SumOf}
use Rattle.bound_expr.proofs.Views.{bound_of-Sum}
use Rattle.cert_types.proofs.Parts.{part_pushed, parts_whole}
use Rattle.cert_types.proofs.ranking.sum_over.Goals as goal

pub loop-entry-preserved : goal.loop-entry-preserved
loop-entry-preserved g c =
    part_pushed _ c.args.entering.now c.loop-entry.entry-index 0 c.loop-entry.parts.items c.push.new.self.items c.in_ok-part.part _
    c.loop-entry-test.true c.loop-entry.invariant c.in_ok-push.ensures.items c.in_ok-part.ensures

pub returns : goal.returns
returns g c =
    let end : length c.args.entering.now ≤ c.loop-entry.entry-index = omega (arith, c.loop-entry-test.false) in
    bound_of-Sum c.loop-entry.parts ∙ ap SumOf (parts_whole _ c.args.entering.now c.loop-entry.entry-index _ _ end c.loop-entry.invariant)
