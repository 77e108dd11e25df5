use Rattle.std.proofs.Common.{◌≡◌, arith, ap, ◌∙◌, length, List, Bool, sym, get_or}
use Rattle.std.specs.Prelude.{slice_get}
use Rattle.cert_types.specs.guard_prep.declared.rule_rows.RuleRows.{RuleRows}
use Rattle.its_model.specs.Views.{program_of, rule_of}
use Rattle.location_facts.proofs.CombinedLists.{prepared-at, prepared-many}
use Rattle.location_facts.proofs.ShownRules.{read, rule-count}
use Rattle.location_facts.proofs.DueRules.{if-due, known-point, under-pushed, under-more}
use Rattle.location_facts.proofs.PointRules.{point-here, pointed-more}
use Rattle.location_facts.proofs.UnderRules.{under-few, rule-here, prepared-here}
use Rattle.location_facts.proofs.UnderRules.{writable-here}
use Rattle.location_facts.proofs.rules.rules_under.Goals as goal

pub rule_if_due-requires-clause-prepared : goal.rule_if_due-requires-clause-prepared
rule_if_due-requires-clause-prepared c =
    let many : length c.args.search.prepared_rules.now ≡ length c.args.search.program.now.rules.items =
    prepared-many (program_of c.args.search.program.now) c.args.search.prepared_rules.now c.requires.rows
    ∙ rule-count c.args.search.program.now in
    prepared-here (program_of c.args.search.program.now) c.args.search.prepared_rules.now c.loop-i.i
    (get_or c.args.search.prepared_rules.now c.loop-i.i c.index-search-i.result)
    (rule_of c.index-rule.result.now) c.requires.valid c.requires.rows
    (read c.args.search.prepared_rules.now c.loop-i.i
    (get_or c.args.search.prepared_rules.now c.loop-i.i c.index-search-i.result) (omega (arith, many))
    (ap (λ (x : RuleRows). get_or c.args.search.prepared_rules.now c.loop-i.i x) c.index-search-i.is))
    (rule-here c.args.search.program.now c.loop-i.i c.index-rule.result.now
    (read c.args.search.program.now.rules.items c.loop-i.i c.index-rule.result.now (omega arith) c.index-rule.ensures))

pub rule_if_due-requires-clause-few : goal.rule_if_due-requires-clause-few
rule_if_due-requires-clause-few c =
    let many : length c.args.search.prepared_rules.now ≡ length c.args.search.program.now.rules.items =
    prepared-many (program_of c.args.search.program.now) c.args.search.prepared_rules.now c.requires.rows
    ∙ rule-count c.args.search.program.now in
    under-few (program_of c.args.search.program.now)
    (get_or c.args.search.prepared_rules.now c.loop-i.i c.index-search-i.result)
    (prepared-here (program_of c.args.search.program.now) c.args.search.prepared_rules.now c.loop-i.i
    (get_or c.args.search.prepared_rules.now c.loop-i.i c.index-search-i.result)
    (rule_of c.index-rule.result.now) c.requires.valid c.requires.rows
    (read c.args.search.prepared_rules.now c.loop-i.i
    (get_or c.args.search.prepared_rules.now c.loop-i.i c.index-search-i.result) (omega (arith, many))
    (ap (λ (x : RuleRows). get_or c.args.search.prepared_rules.now c.loop-i.i x) c.index-search-i.is))
    (rule-here c.args.search.program.now c.loop-i.i c.index-rule.result.now
    (read c.args.search.program.now.rules.items c.loop-i.i c.index-rule.result.now (omega arith) c.index-rule.ensures)))
    c.index-rule.result.now.source c.args.kept.now c.requires.ordered

pub rule_if_due-requires-clause-writable : goal.rule_if_due-requires-clause-writable
rule_if_due-requires-clause-writable c =
    let many : length c.args.search.prepared_rules.now ≡ length c.args.search.program.now.rules.items =
    prepared-many (program_of c.args.search.program.now) c.args.search.prepared_rules.now c.requires.rows
    ∙ rule-count c.args.search.program.now in
    writable-here (program_of c.args.search.program.now) c.args.search.prepared_rules.now c.loop-i.i
    (get_or c.args.search.prepared_rules.now c.loop-i.i c.index-search-i.result)
    (rule_of c.index-rule.result.now) c.args.kept.now c.requires.valid c.requires.rows
    (read c.args.search.prepared_rules.now c.loop-i.i
    (get_or c.args.search.prepared_rules.now c.loop-i.i c.index-search-i.result) (omega (arith, many))
    (ap (λ (x : RuleRows). get_or c.args.search.prepared_rules.now c.loop-i.i x) c.index-search-i.is))
    (rule-here c.args.search.program.now c.loop-i.i c.index-rule.result.now
    (read c.args.search.program.now.rules.items c.loop-i.i c.index-rule.result.now (omega arith) c.index-rule.ensures))
    c.requires.ordered

pub rule_if_due-requires-clause-point : goal.rule_if_due-requires-clause-point
rule_if_due-requires-clause-point c =
    let many : length c.args.search.prepared_rules.now ≡ length c.args.search.program.now.rules.items =
    prepared-many (program_of c.args.search.program.now) c.args.search.prepared_rules.now c.requires.rows
    ∙ rule-count c.args.search.program.now in
    let at-prepared_rule = read c.args.search.prepared_rules.now c.loop-i.i
    (get_or c.args.search.prepared_rules.now c.loop-i.i c.index-search-i.result) (omega (arith, many))
    (ap (λ (x : RuleRows). get_or c.args.search.prepared_rules.now c.loop-i.i x) c.index-search-i.is) in
    let at-rule = rule-here c.args.search.program.now c.loop-i.i c.index-rule.result.now
    (read c.args.search.program.now.rules.items c.loop-i.i c.index-rule.result.now (omega arith)
    c.index-rule.ensures) in
    known-point c.args.due.now _ c.loop-i.i c.asked_of-asked.result _
    (λ marked. point-here (get_or c.args.search.prepared_rules.now c.loop-i.i c.index-search-i.result)
    (rule_of c.index-rule.result.now) c.args.kept.now
    (prepared-at (program_of c.args.search.program.now) c.args.search.prepared_rules.now c.loop-i.i
    (get_or c.args.search.prepared_rules.now c.loop-i.i c.index-search-i.result)
    (rule_of c.index-rule.result.now) c.requires.rows at-prepared_rule at-rule)
    (c.loop-i.invariant.points.each c.loop-i.i (rule_of c.index-rule.result.now)
    (ap (λ (ms : List Bool). slice_get ms c.loop-i.i) (sym c.deref.ensures.value) ∙ marked) at-rule))
    c.asked_of-asked.ensures

pub loop-i-preserved : goal.loop-i-preserved
loop-i-preserved c =
    let many : length c.args.search.prepared_rules.now ≡ length c.args.search.program.now.rules.items =
    prepared-many (program_of c.args.search.program.now) c.args.search.prepared_rules.now c.requires.rows
    ∙ rule-count c.args.search.program.now in
    let at-prepared_rule = read c.args.search.prepared_rules.now c.loop-i.i
    (get_or c.args.search.prepared_rules.now c.loop-i.i c.index-search-i.result) (omega (arith, many))
    (ap (λ (x : RuleRows). get_or c.args.search.prepared_rules.now c.loop-i.i x) c.index-search-i.is) in
    let at-rule = rule-here c.args.search.program.now c.loop-i.i c.index-rule.result.now
    (read c.args.search.program.now.rules.items c.loop-i.i c.index-rule.result.now (omega arith)
    c.index-rule.ensures) in
    record {
      many = under-more c.loop-i.rules_under_facts.items c.push.new.self.items c.loop-i.i c.in_ok-under.under
          c.loop-i.invariant.many c.in_ok-push.ensures.items;
      each = under-pushed (program_of c.args.search.program.now) c.args.search.pivots c.args.due.now c.args.kept.now
          c.loop-i.rules_under_facts.items c.push.new.self.items c.loop-i.i c.in_ok-under.under
          (rule_of c.index-rule.result.now)
          c.loop-i.invariant.many c.loop-i.invariant.each at-rule
          (if-due c.args.search.pivots c.args.kept.now
          (get_or c.args.search.prepared_rules.now c.loop-i.i c.index-search-i.result)
          (rule_of c.index-rule.result.now)
          c.args.due.now _ c.loop-i.i c.asked_of-asked.result c.in_ok-under.under
          (prepared-at (program_of c.args.search.program.now) c.args.search.prepared_rules.now c.loop-i.i
          (get_or c.args.search.prepared_rules.now c.loop-i.i c.index-search-i.result)
          (rule_of c.index-rule.result.now) c.requires.rows at-prepared_rule at-rule)
          (under-few (program_of c.args.search.program.now)
          (get_or c.args.search.prepared_rules.now c.loop-i.i c.index-search-i.result)
          (prepared-here (program_of c.args.search.program.now) c.args.search.prepared_rules.now c.loop-i.i
          (get_or c.args.search.prepared_rules.now c.loop-i.i c.index-search-i.result)
          (rule_of c.index-rule.result.now) c.requires.valid c.requires.rows at-prepared_rule at-rule)
          c.index-rule.result.now.source c.args.kept.now c.requires.ordered) c.asked_of-asked.ensures
          c.in_ok-under.ensures.verdict) c.in_ok-push.ensures.items;
      points = pointed-more (program_of c.args.search.program.now) c.args.kept.now c.loop-i.points.items
          c.mark.new.points.items c.loop-i.i
          (get_or c.args.search.prepared_rules.now c.loop-i.i c.index-search-i.result) (rule_of c.index-rule.result.now)
          c.has_point-has_point.result c.loop-i.invariant.points
          (prepared-at (program_of c.args.search.program.now) c.args.search.prepared_rules.now c.loop-i.i
          (get_or c.args.search.prepared_rules.now c.loop-i.i c.index-search-i.result)
          (rule_of c.index-rule.result.now) c.requires.rows at-prepared_rule at-rule) at-rule
          (λ on. c.has_point-has_point.ensures on _ c.in_ok-under.ensures.point) c.mark.ensures;
    }

pub returns-clause-rules : goal.returns-clause-rules
returns-clause-rules c =
    let all : c.loop-i.i ≡ length c.args.search.program.now.rules.items = omega arith in
    record {
      many = c.loop-i.invariant.many ∙ (all ∙ sym (rule-count c.args.search.program.now));
      each = c.loop-i.invariant.each;
    }
