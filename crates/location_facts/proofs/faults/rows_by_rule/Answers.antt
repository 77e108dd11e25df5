use Rattle.std.proofs.Common.{◌≡◌, ◌++◌, ap, arith, ◌∙◌, List, length, map}
use Rattle.poly_terms.specs.declared.poly.Row.{Row}
use Rattle.poly_terms.specs.Views.{form_of}
use Rattle.its_model.specs.Views.{program_of}
use Rattle.location_facts.specs.Rows.{row_before, facts_at}
use Rattle.location_facts.proofs.CombinedLists.{combined-pushed, prepared-many}
use Rattle.location_facts.proofs.ShownRules.{read, rule-count}
use Rattle.location_facts.proofs.faults.rows_by_rule.Goals as goal

pub loop-i-preserved : goal.loop-i-preserved
loop-i-preserved c =
    let many : length c.args.prepared_rules.now ≡ length c.args.p.now.rules.items =
    prepared-many (program_of c.args.p.now) c.args.prepared_rules.now c.requires ∙ rule-count c.args.p.now in
    combined-pushed c.args.p.now c.args.prepared_rules.now c.args.kept.now c.loop-i.i c.index-prepared_rules-i.result
    c.index-rule.result.now c.loop-i.all.items c.push.new.self.items c.in_ok-rows.rows c.requires
    (read c.args.prepared_rules.now c.loop-i.i c.index-prepared_rules-i.result (omega (arith, many))
    c.index-prepared_rules-i.is)
    (read c.args.p.now.rules.items c.loop-i.i c.index-rule.result.now (omega arith) c.index-rule.ensures)
    c.loop-i.invariant c.in_ok-push.ensures.items
    (c.in_ok-rows.ensures {u = tt} ∙ ap (λ (rs : List Row). map form_of rs
    ++ map row_before (facts_at c.index-rule.result.now.source c.args.kept.now)) c.deref.ensures.value)
