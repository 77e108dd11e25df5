use Rattle.std.proofs.Common.{◌∙◌, List, map, Option, ap}
use Rattle.its_model.specs.Views.{program_of}
use Rattle.signed_bounds.specs.Bounds.{Signed}
use Rattle.best_report.specs.declared.line.Line as code
use Rattle.best_report.specs.Lines.{line_of}
use Rattle.best_report.specs.Spending.{with_bound_on_all, sum_of_spendings}
use Rattle.best_report.proofs.totals.with_total.Goals as goal

pub returns : goal.returns
returns c =
    c.in_ok-all.ensures
    ∙ ap (λ (o : Option Signed). map (with_bound_on_all o) (map line_of c.args.lines.items))
    (c.in_ok-sum.ensures
    ∙ ap (λ (ls : List code.Line). sum_of_spendings (program_of c.args.p.now) (map line_of ls)) c.deref.ensures.value)
