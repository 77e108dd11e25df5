use Rattle.outcome.specs.Views.{size_of}
use Rattle.report_text.specs.Reports.{why_size}
use Rattle.report_text.proofs.Lists.{rows_more}
use Rattle.report_text.proofs.report.push_why_sizes.Goals as goal

pub loop-i-preserved : goal.loop-i-preserved
loop-i-preserved c =
    rows_more c.args.sizes.now (λ places. places.items) (λ rule place s. why_size rule place (size_of s))
    c.loop-i.i c.index-sizes-i.result c.deref.result.now c.loop-i.text.items c.push_why_places.new.text.items _ c.loop-i-test.true
    c.loop-i.invariant c.deref.ensures.value c.index-sizes-i.is c.in_ok-push_why_places.ensures
