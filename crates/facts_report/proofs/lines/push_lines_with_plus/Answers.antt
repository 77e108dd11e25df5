use Rattle.std.proofs.Common.{◌++◌, ◌∙◌, ap, Option, None}
use Rattle.std.specs.Prelude.{ℤ}
use Rattle.its_model.specs.Views.{name_of}
use Rattle.location_facts.specs.Strengthening.{greatest_least}
use Rattle.facts_report.specs.FactTexts.{line_of_strongest}
use Rattle.facts_report.proofs.EachLines.{each_pushed}
use Rattle.facts_report.proofs.lines.push_lines_with_plus.Goals as goal

pub loop-minus-preserved : goal.loop-minus-preserved
loop-minus-preserved c =
    let name = name_of c.args.name.now in
    each_pushed (λ j. line_of_strongest name c.args.plus j (greatest_least c.args.plus j None c.args.facts.now))
    c.loop-minus.minus
    c.args.text.now.items c.loop-minus.text.items c.push_strongest_line.new.text.items c.loop-minus.invariant
    (c.in_ok-push_strongest_line.ensures
    ∙ ap (λ (o : Option ℤ). c.loop-minus.text.items ++ line_of_strongest name c.args.plus c.loop-minus.minus o)
    c.greatest_least.ensures)
