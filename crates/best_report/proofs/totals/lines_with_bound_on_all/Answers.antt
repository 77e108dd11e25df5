use Rattle.std.proofs.Common.{◌∙◌, List, map, option_map, sym, ap, rules, map-id}
use Rattle.std.proofs.lemmas.Iterator.Adapters.{YieldsList-from_vec}
use Rattle.std.proofs.lemmas.Iterator.Consumers.{YieldsList-end}
use Rattle.signed_bounds.specs.Views.{signed_of}
use Rattle.best_report.specs.declared.line.Line as code
use Rattle.best_report.specs.Lines.{line_of}
use Rattle.best_report.specs.Spending.{with_bound_on_all}
use Rattle.best_report.proofs.LinesWithTotal.{more-made}
use Rattle.best_report.proofs.totals.lines_with_bound_on_all.Goals as goal

pub loop-line-preserved : goal.loop-line-preserved
loop-line-preserved c =
    more-made (with_bound_on_all (option_map signed_of c.args.bound.now)) c.loop-line.all.items c.push.new.self.items
    c.loop-line.yielded c.in-Some.line c.in_ok-new.new c.in_ok-push.ensures.items c.in_ok-new.ensures c.loop-line.invariant

pub returns : goal.returns
returns c =
    let end = YieldsList-end (YieldsList-from_vec {s = c.into_iter-line-iterator.result} c.args.lines.items (search rules) (search rules))
    c.loop-line.yielded c.loop-line.line-iterator c.loop-line.yielded_by c.next.result c.next.new.self c.in-None.is c.next.ensures.steps in
    c.loop-line.invariant
    ∙ ap (λ (ls : List code.Line). map (with_bound_on_all (option_map signed_of c.args.bound.now)) (map line_of ls))
    (sym (map-id c.loop-line.yielded) ∙ end.0)
