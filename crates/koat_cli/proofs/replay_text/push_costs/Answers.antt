use Rattle.std.proofs.Common.{◌++◌, arith}
use Rattle.report_text.specs.Conditions.{rule_cost_of}
use Rattle.koat_cli.specs.ReplayTexts.{spent_line}
use Rattle.koat_cli.specs.Steps.{cost_lines}
use Rattle.koat_cli.proofs.LinesBeside.{beside_end}
use Rattle.koat_cli.proofs.replay_text.push_costs.Goals as goal

pub returns : goal.returns
returns c =
    beside_end (λ rule n e. spent_line c.args.at.now rule n (rule_cost_of e)) c.args.spent.now c.args.costs.now c.loop-i.i
    c.loop-i.text.items (c.args.text.now.items ++ cost_lines c.args.at.now 1 c.args.spent.now c.args.costs.now)
    (omega (arith, c.loop-i-test.false, c.loop-i.auto.i-end, c.min-i-end.ensures)) c.loop-i.invariant
