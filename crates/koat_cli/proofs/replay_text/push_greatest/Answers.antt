use Rattle.std.proofs.Common.{◌++◌, arith}
use Rattle.koat_cli.specs.ReplayTexts.{lines_beside}
use Rattle.koat_cli.specs.Steps.{place_lines}
use Rattle.koat_cli.proofs.LinesBeside.{beside_end}
use Rattle.koat_cli.proofs.replay_text.push_greatest.Goals as goal

pub returns : goal.returns
returns c =
    beside_end (λ rule numbers places. place_lines c.args.at.now rule 1 numbers.items places.items)
    c.args.rows.now c.args.sizes.now c.loop-i.i c.loop-i.text.items
    (c.args.text.now.items ++ lines_beside (λ rule numbers places. place_lines c.args.at.now rule 1 numbers.items places.items) 1 c.args.rows.now c.args.sizes.now)
    (omega (arith, c.loop-i-test.false, c.loop-i.auto.i-end, c.min-i-end.ensures)) c.loop-i.invariant
