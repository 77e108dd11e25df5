use Rattle.std.proofs.Common.{arith}
use Rattle.its_model.specs.Views.{program_of, rule_of}
use Rattle.location_facts.proofs.CombinedLists.{prepared-many}
use Rattle.location_facts.proofs.ElementRules.{measured-at, element-at, refuted, rule-numbered}
use Rattle.location_facts.proofs.ShownRules.{rule-count}
use Rattle.location_facts.proofs.UnderRules.{prepared_rule-read}
use Rattle.location_facts.proofs.elements.is_refuted.Goals as goal

pub overflow_sub-number : goal.overflow_sub-number
overflow_sub-number c = (measured-at (program_of c.args.p.now) c.args.elements.now c.loop-k.k c.index-elements-k.result
    c.requires.measured (omega arith) c.index-elements-k.is).rule.0

pub index-rule-requires : goal.index-rule-requires
index-rule-requires c =
    let w = (measured-at (program_of c.args.p.now) c.args.elements.now c.loop-k.k c.index-elements-k.result
    c.requires.measured (omega arith) c.index-elements-k.is).rule in
    omega (arith, w.0, w.1, rule-count c.args.p.now)

pub bounds-prepared_rules-number : goal.bounds-prepared_rules-number
bounds-prepared_rules-number c =
    let w = (measured-at (program_of c.args.p.now) c.args.elements.now c.loop-k.k c.index-elements-k.result
    c.requires.measured (omega arith) c.index-elements-k.is).rule in
    omega (arith, w.0, w.1, prepared-many (program_of c.args.p.now) c.args.prepared_rules.now c.requires.rows)

pub refutes_fact-requires-clause-prepared : goal.refutes_fact-requires-clause-prepared
refutes_fact-requires-clause-prepared c =
    prepared_rule-read (program_of c.args.p.now) c.args.prepared_rules.now c.index-elements-k.result.rule
    c.index-prepared_rules-number.result
    c.requires.valid c.requires.rows
    (measured-at (program_of c.args.p.now) c.args.elements.now c.loop-k.k c.index-elements-k.result
    c.requires.measured (omega arith) c.index-elements-k.is).rule c.index-prepared_rules-number.is

pub refutes_fact-requires-clause-unknowns : goal.refutes_fact-requires-clause-unknowns
refutes_fact-requires-clause-unknowns c =
    (measured-at (program_of c.args.p.now) c.args.elements.now c.loop-k.k c.index-elements-k.result
    c.requires.measured (omega arith) c.index-elements-k.is).few

pub refutes_fact-requires-clause-parts : goal.refutes_fact-requires-clause-parts
refutes_fact-requires-clause-parts c =
    (measured-at (program_of c.args.p.now) c.args.elements.now c.loop-k.k c.index-elements-k.result
    c.requires.measured (omega arith) c.index-elements-k.is).parts

pub refutes_fact-requires-clause-denominator : goal.refutes_fact-requires-clause-denominator
refutes_fact-requires-clause-denominator c =
    (measured-at (program_of c.args.p.now) c.args.elements.now c.loop-k.k c.index-elements-k.result
    c.requires.measured (omega arith) c.index-elements-k.is).den

pub returns-then-refutes_fact : goal.returns-then-refutes_fact
returns-then-refutes_fact c = λ yes pivots kept on.
    let within = (measured-at (program_of c.args.p.now) c.args.elements.now c.loop-k.k c.index-elements-k.result
    c.requires.measured (omega arith) c.index-elements-k.is).rule in
    let (same, below) = c.refutes_fact.ensures.0 c.if-refutes_fact.true in
    refuted (program_of c.args.p.now) c.args.prepared_rules.now c.index-elements-k.result
    c.index-prepared_rules-number.result c.args.fact
    (rule_of c.index-rule.result.now) c.requires.valid c.requires.rows within c.index-prepared_rules-number.is
    (rule-numbered c.args.p.now c.index-elements-k.result.rule c.index-rule.result.now within c.index-rule.ensures)
    same below pivots kept
    (element-at (program_of c.args.p.now) pivots kept c.args.elements.now c.loop-k.k c.index-elements-k.result on
    (omega arith) c.index-elements-k.is)
