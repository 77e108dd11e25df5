use Rattle.std.proofs.Common.{map}
use Rattle.std.proofs.lemmas.Result.{on_ok_weaker}
use Rattle.its_model.specs.Views.{symbol_of}
use Rattle.report_text.proofs.Entries.{gap_reason}
use Rattle.report_text.proofs.reasons.push_why_time.Goals as goal

pub returns-in_ok-push_time_start-in-Gap : goal.returns-in_ok-push_time_start-in-Gap
returns-in_ok-push_time_start-in-Gap c =
    on_ok_weaker c.push_gap.result
    (λ pushed. gap_reason (map symbol_of c.args.symbols.now) c.args.gaps.now c.args.rule c.in-Gap.gap c.args.entry.now c.index-gaps-gap.result
    c.args.text.now.items c.push_time_start.new.text.items c.push_gap.new.text.items c.in-Gap.is c.requires c.index-gaps-gap.is
    c.in_ok-push_time_start-in-Gap.ensures pushed)
    c.push_gap.ensures
