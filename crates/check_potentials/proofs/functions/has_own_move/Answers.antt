use Rattle.std.proofs.Common.{ap, arith}
use Rattle.std.proofs.lemmas.Bool.{eq-eqb}
use Rattle.potential_nodes.specs.Lookup.{is_there}
use Rattle.potential_nodes.specs.Tables.{rule_of}
use Rattle.potential_types.specs.Views.{move_of}
use Rattle.check_potentials.proofs.KeyLaws.{neq-eqb, lookup_found, lookup_passed, lookup_none}
use Rattle.check_potentials.proofs.functions.has_own_move.Goals as goal

pub returns-then-step-rule : goal.returns-then-step-rule
returns-then-step-rule c =
    ap is_there (lookup_found rule_of move_of c.args.moves.now c.loop-step.step-index c.args.rule c.step-item.result
    c.loop-step-test.true c.step-item.is
    (eq-eqb _ _ c.if-step-rule.true) c.loop-step.invariant)

pub loop-step-preserved : goal.loop-step-preserved
loop-step-preserved c =
    lookup_passed rule_of move_of c.args.moves.now c.loop-step.step-index c.args.rule c.step-item.result
    c.loop-step-test.true c.step-item.is
    (neq-eqb _ _ c.if-step-rule.false) c.loop-step.invariant

pub returns : goal.returns
returns c = ap is_there (lookup_none rule_of move_of c.args.moves.now c.loop-step.step-index c.args.rule (omega arith)
    c.loop-step.invariant)
