use Rattle.std.proofs.Common.{map}
use Rattle.its_model.specs.Views.{name_of}
use Rattle.outcome.specs.Views.{size_of}
use Rattle.report_text.specs.Reports.{size_line}
use Rattle.report_text.proofs.Lists.{rows_more}
use Rattle.report_text.proofs.report.push_sizes.Goals as goal

pub loop-i-preserved : goal.loop-i-preserved
loop-i-preserved c =
    rows_more c.args.sizes.now (λ places. places.items) (λ rule place s. size_line (map name_of c.args.names.now) rule place (size_of s))
    c.loop-i.i c.index-sizes-i.result c.deref.result.now c.loop-i.text.items c.push_places.new.text.items _ c.loop-i-test.true
    c.loop-i.invariant c.deref.ensures.value c.index-sizes-i.is c.in_ok-push_places.ensures
