use Rattle.std.proofs.Common.{arith}
use Rattle.cert_types.specs.AnswerViews.{shut_of}
use Rattle.report_text.specs.Printable.{IsShort}
use Rattle.koat_cli.proofs.FittingReports.{each-more}
use Rattle.koat_cli.proofs.fitting.shut_fit.Goals as goal

pub loop-place-preserved : goal.loop-place-preserved
loop-place-preserved c =
    each-more (λ s. IsShort s.place) shut_of c.args.shut.now c.loop-place.place-index (0, 0) c.loop-place-test.true
    c.loop-place.invariant (omega arith)
