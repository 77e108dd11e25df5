use Rattle.std.proofs.Common.{map, ap}
use Rattle.its_model.specs.Views.{name_of, symbol_of}
use Rattle.outcome.specs.Views.{report_of}
use Rattle.report_text.specs.Reports.{bounds_text, reasons_text, text_of_report}
use Rattle.report_text.proofs.Lists.{whole_pushed}
use Rattle.report_text.proofs.report.print.Goals as goal

pub returns : goal.returns
unfolding text_of_report
returns c =
    whole_pushed c.new-text.result.items c.push_bounds.new.text.items c.push_reasons.new.text.items _ _ _ _
    c.new-text.ensures.items
    c.in_ok-push_bounds.ensures (ap (λ names. bounds_text (map name_of names) (report_of c.args.o.now)) c.deref.ensures.value)
    c.in_ok-push_reasons.ensures (ap (λ symbols. reasons_text (map symbol_of symbols) (report_of c.args.o.now)) c.deref-2.ensures.value)
