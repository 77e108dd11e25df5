use Rattle.std.proofs.Common.{◌≡◌, ◌∙◌, length, ap, sym, subst, arith}
use Rattle.std.proofs.lemmas.List.{length-map}
use Rattle.its_model.specs.model.Runs.{Config}
use Rattle.its_model.specs.Views.{program_of, config_of, step_of}
use Rattle.run_replay.specs.Replays.{RunsInRange}
use Rattle.lasso_check.specs.Lassos.{stem_back}
use Rattle.lasso_check.specs.Views.{lasso_of}
use Rattle.lasso_check.proofs.Turns.{stem_runs, closes, few_recorded, recorded_length, listed_rules}
use Rattle.lasso_check.proofs.Walks.{step_refused}
use Rattle.lasso_check.proofs.checking.judge.Goals as goal

pub returns-in-Err : goal.returns-in-Err
returns-in-Err c = step_refused (program_of c.args.p.now) (lasso_of c.args.l.now) c.in-Err.error c.in-Err.ensures

pub returns-in-Err-walk_turn : goal.returns-in-Err-walk_turn
returns-in-Err-walk_turn c =
    step_refused (program_of c.args.p.now) (lasso_of c.args.l.now) c.in-Err-walk_turn.error c.in-Err-walk_turn.ensures

pub rules_used-requires : goal.rules_used-requires
rules_used-requires c =
    let few = few_recorded (program_of c.args.p.now) (lasso_of c.args.l.now) (length c.args.l.now.turn.items)
    c.in-Ok-walk_turn.turning c.requires.valid c.in-Ok-walk_turn.ensures in
    omega (arith, few, ap length c.deref.ensures.value)

pub returns : goal.returns
returns c =
    let p = program_of c.args.p.now in
    let l = lasso_of c.args.l.now in
    let t = c.in-Ok-walk_turn.turning in
    let n = length c.args.l.now.turn.items in
    let turn : n ≡ length l.turn = sym (length-map c.args.l.now.turn.items step_of) in
    let stem = stem_runs p l (length c.args.l.now.stem.items) c.in-Ok.walk c.in-Ok.ensures
    (sym (length-map c.args.l.now.stem.items step_of)) in
    closes p l (config_of c.in_ok-before.before) n t c.in_ok-rules.rules.items
    (subst (λ (x : Config). RunsInRange p l.start (stem_back l) x) (sym c.in_ok-before.ensures) stem)
    c.in_default.ensures c.in-Ok-walk_turn.ensures turn (omega (arith, c.requires.turn, turn))
    (λ e. listed_rules p l c.deref.result.now c.in_ok-rules.rules.items
    (ap length c.deref.ensures.value ∙ recorded_length p l n t c.in-Ok-walk_turn.ensures) c.in_ok-rules.ensures
    (c.deref.ensures.value ∙ e))
