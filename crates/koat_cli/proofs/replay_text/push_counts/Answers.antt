use Rattle.std.proofs.Common.{◌++◌, arith}
use Rattle.koat_cli.specs.ReplayTexts.{count_line}
use Rattle.koat_cli.specs.Steps.{entry_value, entry_lines}
use Rattle.koat_cli.proofs.LinesBeside.{beside_end}
use Rattle.koat_cli.proofs.replay_text.push_counts.Goals as goal

pub returns : goal.returns
returns c =
    beside_end (λ rule n e. count_line rule n (entry_value c.args.at.now e))
    c.args.counts.now c.args.times.now c.loop-i.i c.loop-i.text.items
    (c.args.text.now.items ++ entry_lines c.args.at.now 1 c.args.counts.now c.args.times.now)
    (omega (arith, c.loop-i-test.false, c.loop-i.auto.i-end, c.min-i-end.ensures)) c.loop-i.invariant
