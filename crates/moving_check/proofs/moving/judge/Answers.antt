use Rattle.std.proofs.Common.{◌≡◌, ◌≤◌, length, sym, subst, arith}
use Rattle.std.proofs.lemmas.List.{length-map}
use Rattle.its_model.specs.model.Runs.{Config}
use Rattle.its_model.specs.Views.{program_of, config_of, step_of}
use Rattle.run_replay.specs.Replays.{RunsInRange}
use Rattle.lasso_check.specs.Lassos.{stem_back}
use Rattle.lasso_check.specs.Views.{lasso_of}
use Rattle.lasso_check.proofs.Turns.{stem_runs, whole_runs}
use Rattle.moving_check.proofs.Verdicts.{finds_between}
use Rattle.moving_check.proofs.moving.judge.Goals as goal

pub returns-in-Err : goal.returns-in-Err
returns-in-Err c = c.bad_step.ensures (program_of c.args.p.now) (lasso_of c.args.l.now) c.in-Err.ensures

pub returns-in-Err-walk_turn : goal.returns-in-Err-walk_turn
returns-in-Err-walk_turn c =
    c.bad_step-in-Err-walk_turn.ensures (program_of c.args.p.now) (lasso_of c.args.l.now) c.in-Err-walk_turn.ensures

pub found_behind-requires-clause-stem : goal.found_behind-requires-clause-stem
found_behind-requires-clause-stem c =
    let p = program_of c.args.p.now in
    let l = lasso_of c.args.l.now in
    subst (λ (x : Config). RunsInRange p l.start (stem_back l) x) (sym c.in_ok-before.ensures)
    (stem_runs p l (length c.args.l.now.stem.items) c.in-Ok.walk c.in-Ok.ensures
    (sym (length-map c.args.l.now.stem.items step_of)))

pub returns : goal.returns
returns c =
    let p = program_of c.args.p.now in
    let l = lasso_of c.args.l.now in
    let t = c.in-Ok-walk_turn.turning in
    let n = length c.args.l.now.turn.items in
    let turn : n ≡ length l.turn = sym (length-map c.args.l.now.turn.items step_of) in
    let stem = stem_runs p l (length c.args.l.now.stem.items) c.in-Ok.walk c.in-Ok.ensures
    (sym (length-map c.args.l.now.stem.items step_of)) in
    finds_between p l (config_of c.in_ok-before.before) (config_of t.walk.here)
    (subst (λ (x : Config). RunsInRange p l.start (stem_back l) x) (sym c.in_ok-before.ensures) stem)
    (whole_runs p l n t c.in-Ok-walk_turn.ensures turn) (omega (arith, c.requires.turn, turn)) c.found_behind.result
    c.found_behind.ensures
