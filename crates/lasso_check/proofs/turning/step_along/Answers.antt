use Rattle.std.proofs.Common.{◌≡◌, ◌<◌, ◌≤◌, ◌+◌, ℕ, length, arith}
use Rattle.std.proofs.lemmas.List.{length-map}
use Rattle.its_model.specs.StepAnswers.{fault_of}
use Rattle.its_model.specs.Views.{program_of, rule_of, step_of}
use Rattle.run_replay.proofs.ReplayFaults.{replay_steps}
use Rattle.run_replay.proofs.RuleNumbers.{rule_some}
use Rattle.lasso_check.specs.declared.file.Lasso.{Lasso}
use Rattle.lasso_check.specs.Lassos.{run_along}
use Rattle.lasso_check.specs.Views.{lasso_of}
use Rattle.lasso_check.proofs.Walks.{both_length, taken_next, taken_cost, taken_bad}
use Rattle.lasso_check.proofs.turning.step_along.Goals as goal

-- the position is one of both parts
within : (l : Lasso) (i : ℕ) → i < length l.stem.items + length l.turn.items → i < length (run_along (lasso_of l)).steps
within l i low = omega (arith, low, both_length l)

pub step_on-requires-clause-walks : goal.step_on-requires-clause-walks
step_on-requires-clause-walks c = c.requires.taken.walks

pub returns-in-Ok-clause-taken : goal.returns-in-Ok-clause-taken
returns-in-Ok-clause-taken c =
    taken_next (replay_steps c.steps_have_no_fault.ensures c.costs_have_no_fault.ensures) (program_of c.args.p.now)
    (lasso_of c.args.lasso.now) c.args.i (step_of c.args.step.now) c.args.walk.now c.step_on.new.self
    (within c.args.lasso.now c.args.i c.requires.position) c.requires.step c.requires.taken c.in-Ok.ensures.step
    c.in-Ok.ensures.fault c.step_on.ensures.walks

pub returns-in-Ok-clause-cost : goal.returns-in-Ok-clause-cost
returns-in-Ok-clause-cost c =
    taken_cost (program_of c.args.p.now) (lasso_of c.args.lasso.now) c.args.i c.in-Ok.cost (step_of c.args.step.now)
    c.args.walk.now c.requires.taken c.in-Ok.ensures.cost

pub returns-in-Ok-clause-rule : goal.returns-in-Ok-clause-rule
returns-in-Ok-clause-rule c =
    let s = c.in-Ok.ensures.step in
    let r = rule_some (program_of c.args.p.now) c.args.step.now.rule s.rule s.numbered in
    (r.0, omega (arith, r.1, length-map c.args.p.now.rules.items rule_of))

pub returns-in-Err-clause-taken : goal.returns-in-Err-clause-taken
returns-in-Err-clause-taken c =
    taken_bad (program_of c.args.p.now) (lasso_of c.args.lasso.now) c.args.i (step_of c.args.step.now) c.args.walk.now
    (fault_of c.in-Err.error) c.error_at.result (within c.args.lasso.now c.args.i c.requires.position) c.requires.step
    c.requires.taken c.in-Err.ensures.fault c.error_at.ensures
