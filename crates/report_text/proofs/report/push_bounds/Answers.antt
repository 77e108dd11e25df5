-- The headline, times, costs, the total and sizes are appended in this order.
use Rattle.std.proofs.Common.{map, refl, ◌∙◌, ap}
use Rattle.std.proofs.lemmas.Result.{on_ok_weaker}
use Rattle.its_model.specs.Views.{name_of}
use Rattle.outcome.specs.Views.{size_of, report_of}
use Rattle.report_text.specs.Pieces.{numbered_lines}
use Rattle.report_text.specs.Reports.{cost_line, size_line}
use Rattle.report_text.specs.Conditions.{entry_line, rule_cost_of}
use Rattle.report_text.proofs.Lists.{five_pushed}
use Rattle.report_text.proofs.Entries.{times_same, costs_same, sizes_same}
use Rattle.report_text.proofs.report.push_bounds.Goals as goal

pub returns : goal.returns
returns c =
    let names = map name_of c.args.names.now in
    on_ok_weaker c.push_sizes.result
    (λ pushed. five_pushed c.args.text.now.items c.push_headline.new.text.items c.push_times.new.text.items c.push_costs.new.text.items
    c.push_total.new.text.items c.push_sizes.new.text.items _ _ _ _ _ _ _ _ _ _
    c.in_ok-push_headline.ensures refl
    c.in_ok-push_times.ensures
    (ap (numbered_lines (entry_line names) 1) c.deref.ensures.value ∙ times_same names c.args.o.now.gaps.items c.args.o.now.times.items)
    c.in_ok-push_costs.ensures
    (ap (numbered_lines (λ rule cost. cost_line names rule (rule_cost_of cost)) 1) c.deref-2.ensures.value ∙ costs_same names c.args.o.now.costs.items)
    c.in_ok-push_total.ensures refl
    pushed
    (ap (numbered_lines (λ rule places. numbered_lines (λ place s. size_line names rule place (size_of s)) 1 places.items) 1) c.deref-3.ensures.value
    ∙ sizes_same (λ places. places.items) names c.args.o.now.sizes.items))
    c.push_sizes.ensures
