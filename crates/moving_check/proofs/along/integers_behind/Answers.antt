use Rattle.std.proofs.Common.{◌≡◌, ◌+◌, ◌<◌, ℕ, length, sym, ◌∙◌, arith}
use Rattle.std.proofs.lemmas.List.{length-map}
use Rattle.its_model.specs.Views.{program_of, step_of}
use Rattle.its_model.specs.model.Programs.{rule_at}
use Rattle.lasso_check.specs.Lassos.{turn_back}
use Rattle.lasso_check.specs.Views.{lasso_of}
use Rattle.lasso_check.proofs.Walks.{own_step}
use Rattle.affine_turns.specs.Stops.{stop_in}
use Rattle.affine_turns.specs.Turns.{step_stop, first_stop_along}
use Rattle.moving_check.proofs.GoingOn.{next_goes_on, next_integers, next_stops, stop_said}
use Rattle.moving_check.proofs.along.integers_behind.Goals as goal

pub loop-i-preserved : goal.loop-i-preserved
loop-i-preserved c =
    let p = program_of c.args.p.now in
    let l = lasso_of c.args.lasso.now in
    let i = c.loop-i.i in
    let x = c.index.result.now in
    let read : i < length c.args.lasso.now.turn.items = omega (arith, c.loop-i-test.true, c.len-i-end.ensures) in
    let low : i < length l.turn = omega (arith, read, length-map c.args.lasso.now.turn.items step_of) in
    let own = own_step c.args.lasso.now i x read c.index.ensures in
    let now = c.deref.ensures.value ∙ c.loop-i.invariant.same in
    record {
      none = next_goes_on p c.args.env.now l i (step_of x) c.deref.result.now low own c.loop-i.invariant.none now
          c.in-Ok.ensures.0;
      same = next_integers p c.args.env.now l i (step_of x) c.deref.result.now c.in-Ok.behind.items low own now
          c.in-Ok.ensures.1;
    }

pub returns-in-Err : goal.returns-in-Err
returns-in-Err c =
    let p = program_of c.args.p.now in
    let l = lasso_of c.args.lasso.now in
    let i = c.loop-i.i in
    let x = c.index.result.now in
    let read : i < length c.args.lasso.now.turn.items = omega (arith, c.loop-i-test.true, c.len-i-end.ensures) in
    let low : i < length l.turn = omega (arith, read, length-map c.args.lasso.now.turn.items step_of) in
    let own = own_step c.args.lasso.now i x read c.index.ensures in
    let now = c.deref.ensures.value ∙ c.loop-i.invariant.same in
    let number : c.len.result + i + 1 ≡ length c.args.lasso.now.stem.items + (i + 1) = omega (arith, c.len.ensures) in
    stop_said (first_stop_along p c.args.env.now (turn_back l)) (length c.args.lasso.now.stem.items) (c.len.result + i + 1) i
    (stop_in c.in-Err.error) (step_stop (rule_at p x.rule) c.deref.result.now x.free.items) c.stopped_at.result
    c.in-Err.ensures c.stopped_at.ensures.stop c.stopped_at.ensures.memory
    (λ stop one. next_stops p c.args.env.now l i (step_of x) c.deref.result.now stop low own c.loop-i.invariant.none now one)
    number
