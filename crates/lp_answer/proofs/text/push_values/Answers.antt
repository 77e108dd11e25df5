use Rattle.std.proofs.Common.{◌≤◌, length, arith}
use Rattle.lp_answer.proofs.ValueLines.{lines-more, lines-end}
use Rattle.lp_answer.proofs.text.push_values.Goals as goal

pub loop-i-preserved : goal.loop-i-preserved
loop-i-preserved c =
    lines-more c.args.letter.now c.args.values.now c.loop-i.i c.index-values-i.result c.loop-i.text.items _ _
    c.loop-i-test.true c.index-values-i.is c.loop-i.invariant c.in_ok-push_value.ensures

pub returns : goal.returns
returns c =
    let past : length c.args.values.now ≤ c.loop-i.i = omega (arith, c.loop-i-test.false) in
    lines-end c.args.letter.now c.args.values.now c.loop-i.i c.loop-i.text.items _ past c.loop-i.invariant
