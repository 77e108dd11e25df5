use Rattle.std.proofs.Common.{arith, refl, subst}
use Rattle.its_model.specs.Views.{program_of}
use Rattle.location_facts.specs.CombinedRows.{FindsUnshown}
use Rattle.location_facts.proofs.FaultSteps.{shape-at, unshown-next, shown-next}
use Rattle.location_facts.proofs.faults.first_unshown.Goals as goal

pub unshown_rule-requires-clause-one_each : goal.unshown_rule-requires-clause-one_each
unshown_rule-requires-clause-one_each c =
    (shape-at (program_of c.args.p.now) c.args.f.now c.loop-i.i c.index.result.now c.index-in-loop-i.result.now
    c.deref.result.now (omega arith) c.requires.one_each c.index.ensures c.index-in-loop-i.ensures
    c.deref.ensures.value c.requires.right).one_each

pub unshown_rule-requires-clause-numbers : goal.unshown_rule-requires-clause-numbers
unshown_rule-requires-clause-numbers c =
    (shape-at (program_of c.args.p.now) c.args.f.now c.loop-i.i c.index.result.now c.index-in-loop-i.result.now
    c.deref.result.now (omega arith) c.requires.one_each c.index.ensures c.index-in-loop-i.ensures
    c.deref.ensures.value c.requires.right).numbers

pub returns-in-Some : goal.returns-in-Some
returns-in-Some c =
    unshown-next (program_of c.args.p.now) c.args.f.now c.loop-i.i c.in-Some.rule
    (record { fact = c.in_ok-fact.fact; rule = c.in-Some.rule }) c.index.result.now c.index-in-loop-i.result.now
    c.deref.result.now (omega arith) c.requires.one_each c.index.ensures c.index-in-loop-i.ensures
    c.deref.ensures.value c.requires.right c.loop-i.invariant
    (subst (FindsUnshown (program_of c.args.p.now) c.args.f.now.kept.items c.index.result.now c.deref.result.now)
    c.in-Some.is (c.in_ok-rule.ensures {u = tt} c.args.f.now.kept.items c.requires.rows)) c.in_ok-fact.ensures refl

pub loop-i-preserved : goal.loop-i-preserved
loop-i-preserved c =
    shown-next (program_of c.args.p.now) c.args.f.now c.loop-i.i c.index.result.now c.index-in-loop-i.result.now
    c.deref.result.now (omega arith) c.requires.one_each c.index.ensures c.index-in-loop-i.ensures
    c.deref.ensures.value c.loop-i.invariant
    (subst (FindsUnshown (program_of c.args.p.now) c.args.f.now.kept.items c.index.result.now c.deref.result.now)
    c.in_default.is (c.in_ok-rule.ensures {u = tt} c.args.f.now.kept.items c.requires.rows))
