use Rattle.std.proofs.Common.{arith, ◌∙◌, sym}
use Rattle.poly_terms.specs.Views.{form_of}
use Rattle.its_model.specs.Views.{program_of}
use Rattle.location_facts.proofs.CombinedLists.{prepared-many}
use Rattle.location_facts.proofs.FaultSteps.{proofs-more}
use Rattle.location_facts.proofs.ShownRules.{into-rule, new_values-read, shown-there, shown-here, proof-read}
use Rattle.location_facts.proofs.ShownRules.{small-read}
use Rattle.location_facts.proofs.ShownRules.{rule-count}
use Rattle.location_facts.proofs.faults.unshown_rule.Goals as goal

pub overflow_sub-prepared_rule : goal.overflow_sub-prepared_rule
overflow_sub-prepared_rule c =
    (into-rule (program_of c.args.p.now) c.args.fact.symbol c.loop-k.k c.index-rule.result.now
    c.in_ok-into.into.items (c.in_ok-into.ensures {u = tt}) (omega arith) c.index-rule.ensures).0

pub bounds-prepared_rules-rule : goal.bounds-prepared_rules-rule
bounds-prepared_rules-rule c =
    let w = (into-rule (program_of c.args.p.now) c.args.fact.symbol c.loop-k.k c.index-rule.result.now
    c.in_ok-into.into.items (c.in_ok-into.ensures {u = tt}) (omega arith) c.index-rule.ensures) in
    omega (arith, w.0, w.1, prepared-many (program_of c.args.p.now) c.args.prepared_rules.now c.requires.prepared_rules)

pub overflow_sub-own : goal.overflow_sub-own
overflow_sub-own c =
    (into-rule (program_of c.args.p.now) c.args.fact.symbol c.loop-k.k c.index-rule.result.now
    c.in_ok-into.into.items (c.in_ok-into.ensures {u = tt}) (omega arith) c.index-rule.ensures).0

pub bounds-rows-rule : goal.bounds-rows-rule
bounds-rows-rule c =
    let w = (into-rule (program_of c.args.p.now) c.args.fact.symbol c.loop-k.k c.index-rule.result.now
    c.in_ok-into.into.items (c.in_ok-into.ensures {u = tt}) (omega arith) c.index-rule.ensures) in
    omega (arith, w.0, w.1, c.requires.many, rule-count c.args.p.now)

pub row_after-requires : goal.row_after-requires
row_after-requires c =
    new_values-read (program_of c.args.p.now) c.args.prepared_rules.now c.index-rule.result.now
    c.index-prepared_rules-rule.result
    c.deref.result.now c.requires.valid c.requires.prepared_rules
    (into-rule (program_of c.args.p.now) c.args.fact.symbol c.loop-k.k c.index-rule.result.now
    c.in_ok-into.into.items (c.in_ok-into.ensures {u = tt}) (omega arith) c.index-rule.ensures)
    c.index-prepared_rules-rule.is c.deref.ensures.value

pub is_shown-requires-clause-rows : goal.is_shown-requires-clause-rows
is_shown-requires-clause-rows c =
    let w = (into-rule (program_of c.args.p.now) c.args.fact.symbol c.loop-k.k c.index-rule.result.now
    c.in_ok-into.into.items (c.in_ok-into.ensures {u = tt}) (omega arith) c.index-rule.ensures) in
    small-read c.args.rows.now _ c.index-rows-rule.result c.deref-in-loop-k.result.now
    (omega (arith, w.0, w.1, c.requires.many, rule-count c.args.p.now)) c.requires.small c.index-rows-rule.is
    c.deref-in-loop-k.ensures.value

pub returns-then-not-shown : goal.returns-then-not-shown
returns-then-not-shown c = λ kept are. record {
  position = c.loop-k.k;
  proof = c.index-proofs-k.result;
  refutes_for =
      proof-read (program_of c.args.p.now) c.args.fact c.args.proofs.now c.loop-k.k c.index-rule.result.now
      c.index-proofs-k.result c.in_ok-into.into.items (c.in_ok-into.ensures {u = tt}) c.requires.one_each
      (omega arith) c.index-rule.ensures c.index-proofs-k.is;
  earlier = c.loop-k.invariant kept are;
  shows_not = λ s. absurd (let t = c.in_ok-shown.ensures.1
      (shown-here (program_of c.args.p.now) c.args.prepared_rules.now kept c.args.rows.now c.index-rule.result.now
      c.index-prepared_rules-rule.result c.index-rows-rule.result c.args.fact c.index-proofs-k.result
      c.deref-in-loop-k.result.now
      c.deref.result.now (form_of c.in_ok-goal.goal)
      (into-rule (program_of c.args.p.now) c.args.fact.symbol c.loop-k.k c.index-rule.result.now
      c.in_ok-into.into.items (c.in_ok-into.ensures {u = tt}) (omega arith) c.index-rule.ensures)
      (c.requires.many ∙ sym (rule-count c.args.p.now)) c.requires.prepared_rules are c.index-prepared_rules-rule.is
      c.index-rows-rule.is c.deref-in-loop-k.ensures.value c.deref.ensures.value c.in_ok-goal.ensures.same s) in
      let no : ⊥ = cc in no);
}

pub loop-k-preserved : goal.loop-k-preserved
loop-k-preserved c = λ kept are.
    proofs-more (program_of c.args.p.now) kept c.args.fact c.args.proofs.now c.loop-k.k c.index-rule.result.now
    c.index-proofs-k.result (c.loop-k.invariant kept are)
    (proof-read (program_of c.args.p.now) c.args.fact c.args.proofs.now c.loop-k.k c.index-rule.result.now
    c.index-proofs-k.result c.in_ok-into.into.items (c.in_ok-into.ensures {u = tt}) c.requires.one_each
    (omega arith) c.index-rule.ensures c.index-proofs-k.is)
    (shown-there (program_of c.args.p.now) c.args.prepared_rules.now kept c.args.rows.now c.index-rule.result.now
    c.index-prepared_rules-rule.result c.index-rows-rule.result c.args.fact c.index-proofs-k.result
    c.deref-in-loop-k.result.now
    c.deref.result.now (form_of c.in_ok-goal.goal)
    (into-rule (program_of c.args.p.now) c.args.fact.symbol c.loop-k.k c.index-rule.result.now
    c.in_ok-into.into.items (c.in_ok-into.ensures {u = tt}) (omega arith) c.index-rule.ensures)
    (c.requires.many ∙ sym (rule-count c.args.p.now)) c.requires.prepared_rules are c.index-prepared_rules-rule.is
    c.index-rows-rule.is c.deref-in-loop-k.ensures.value c.deref.ensures.value c.in_ok-goal.ensures.same
    (c.in_ok-shown.ensures.0 c.if-not-shown.false))
