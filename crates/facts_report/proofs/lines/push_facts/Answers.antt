use Rattle.std.proofs.Common.{arith}
use Rattle.its_model.specs.Views.{name_of}
use Rattle.facts_report.specs.FactTexts.{lines_with_plus}
use Rattle.facts_report.proofs.EachLines.{each_pushed, each_whole}
use Rattle.facts_report.proofs.lines.push_facts.Goals as goal

pub loop-plus-preserved : goal.loop-plus-preserved
loop-plus-preserved c =
    each_pushed (lines_with_plus (name_of c.args.name.now) c.args.facts.now) c.loop-plus.plus c.args.text.now.items
    c.loop-plus.text.items c.push_lines_with_plus.new.text.items c.loop-plus.invariant
    c.in_ok-push_lines_with_plus.ensures

pub returns : goal.returns
returns c =
    each_whole (lines_with_plus (name_of c.args.name.now) c.args.facts.now) c.loop-plus.plus c.args.text.now.items
    c.loop-plus.text.items (omega arith) c.loop-plus.invariant
