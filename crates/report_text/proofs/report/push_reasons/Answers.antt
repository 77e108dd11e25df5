-- The reasons of times, costs and sizes are appended in this order.
use Rattle.std.proofs.Common.{map, ◌∙◌, ap}
use Rattle.std.proofs.lemmas.Result.{on_ok_weaker}
use Rattle.its_model.specs.Views.{symbol_of}
use Rattle.outcome.specs.Views.{time_of, size_of}
use Rattle.report_text.specs.Pieces.{numbered_lines}
use Rattle.report_text.specs.Reports.{why_time, why_cost, why_size}
use Rattle.report_text.specs.Conditions.{rule_cost_of}
use Rattle.report_text.proofs.Lists.{three_pushed}
use Rattle.report_text.proofs.Entries.{why_times_same, why_costs_same, why_sizes_same}
use Rattle.report_text.proofs.report.push_reasons.Goals as goal

pub returns : goal.returns
returns c =
    let symbols = map symbol_of c.args.symbols.now in
    on_ok_weaker c.push_why_sizes.result
    (λ pushed. three_pushed c.args.text.now.items c.push_why_times.new.text.items c.push_why_costs.new.text.items
    c.push_why_sizes.new.text.items _ _ _ _ _ _
    c.in_ok-push_why_times.ensures
    (ap (λ gaps. numbered_lines (λ rule t. why_time symbols rule (time_of gaps t)) 1 c.deref-2.result.now) c.deref.ensures.value
    ∙ (ap (numbered_lines (λ rule t. why_time symbols rule (time_of c.args.o.now.gaps.items t)) 1) c.deref-2.ensures.value
    ∙ why_times_same symbols c.args.o.now.gaps.items c.args.o.now.times.items))
    c.in_ok-push_why_costs.ensures
    (ap (numbered_lines (λ rule cost. why_cost rule (rule_cost_of cost)) 1) c.deref-3.ensures.value ∙ why_costs_same c.args.o.now.costs.items)
    pushed
    (ap (numbered_lines (λ rule places. numbered_lines (λ place s. why_size rule place (size_of s)) 1 places.items) 1) c.deref-4.ensures.value
    ∙ why_sizes_same (λ places. places.items) c.args.o.now.sizes.items))
    c.push_why_sizes.ensures
