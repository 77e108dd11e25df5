use Rattle.std.proofs.Common.{List, ℕ, ◌++◌, ◌∙◌, ap}
use Rattle.its_model.specs.Views.{program_of}
use Rattle.location_facts.specs.declared.fact.LocFact.{LocFact}
use Rattle.outcome.specs.Views.{report_of}
use Rattle.report_text.specs.Reports.{text_of_report}
use Rattle.facts_report.specs.FactTexts.{location_lines, text_with_facts}
use Rattle.facts_report.proofs.lines.print.Goals as goal

pub returns : goal.returns
unfolding text_with_facts
returns c =
    (c.in_ok-extend_from_slice.ensures {u = tt}).items
    ∙ (ap (λ (t : List ℕ). c.in_ok-text.text.items ++ t) (c.deref-2.ensures.value ∙ c.in_ok-report.ensures {u = tt})
    ∙ ap (λ (t : List ℕ). t ++ text_of_report (program_of c.args.p.now) (report_of c.args.w.now.outcome))
    (c.in_ok-text.ensures {u = tt}
    ∙ ap (λ (facts : List LocFact). location_lines (program_of c.args.p.now) facts) c.deref.ensures.value))
