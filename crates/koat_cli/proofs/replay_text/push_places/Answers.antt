use Rattle.std.proofs.Common.{◌++◌, arith}
use Rattle.outcome.specs.Views.{size_of}
use Rattle.koat_cli.specs.ReplayTexts.{greatest_line, size_value}
use Rattle.koat_cli.specs.Steps.{place_lines}
use Rattle.koat_cli.proofs.LinesBeside.{beside_end}
use Rattle.koat_cli.proofs.replay_text.push_places.Goals as goal

pub returns : goal.returns
returns c =
    beside_end (λ place n e. greatest_line c.args.rule place n (size_value c.args.at.now (size_of e)))
    c.args.numbers.now c.args.sizes.now c.loop-i.i c.loop-i.text.items
    (c.args.text.now.items ++ place_lines c.args.at.now c.args.rule 1 c.args.numbers.now c.args.sizes.now)
    (omega (arith, c.loop-i-test.false, c.loop-i.auto.i-end, c.min-i-end.ensures)) c.loop-i.invariant
