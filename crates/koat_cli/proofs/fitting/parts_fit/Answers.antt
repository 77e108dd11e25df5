use Rattle.std.proofs.Common.{◌+◌, take, arith}
use Rattle.std.specs.Prelude.{pos}
use Rattle.std.proofs.lemmas.Int.{ints}
use Rattle.std.proofs.lemmas.List.Elements.{All-more, All-from_recursion, recursion_from_All}
use Rattle.report_text.specs.Printable.{IsShortSigned}
use Rattle.koat_cli.proofs.fitting.parts_fit.Goals as goal

pub loop-part-preserved : goal.loop-part-preserved
loop-part-preserved c =
    let parts = c.args.parts.now in
    let i = c.loop-part.part-index in
    recursion_from_All IsShortSigned (take (i + 1) parts)
    (All-more IsShortSigned parts i (pos 0) c.loop-part-test.true
    (All-from_recursion IsShortSigned (take i parts) c.loop-part.invariant) (omega (arith, ints)))
