use Rattle.std.proofs.Common.{arith}
use Rattle.std.proofs.lemmas.List.{length-map}
use Rattle.its_model.specs.Views.{program_of, step_of}
use Rattle.run_replay.specs.Views.{run_of}
use Rattle.run_replay.specs.ReplayAnswers.{last_first}
use Rattle.run_replay.proofs.ReplayStands.{whole_replay, refused_never, refused_once}
use Rattle.run_replay.proofs.replaying.replay.Goals as goal

pub returns-in-Err-clause-complete : goal.returns-in-Err-clause-complete
returns-in-Err-clause-complete c = λ run.
    refused_never c.replays_are_decided.ensures (program_of c.args.p.now) (run_of c.args.run.now) c.in-Err.error
    c.in-Err.ensures run

pub returns-in-Err-clause-refused : goal.returns-in-Err-clause-refused
returns-in-Err-clause-refused c = λ bad k.
    refused_once c.replays_are_decided.ensures (program_of c.args.p.now) (run_of c.args.run.now) c.in-Err.error bad
    c.in-Err.ensures k

pub returns-clause-answer : goal.returns-clause-answer
returns-clause-answer c =
    whole_replay (program_of c.args.p.now) (run_of c.args.run.now) c.loop-i.i c.loop-i.standing
    (omega (
      arith,
      c.loop-i-test.false,
      length-map c.args.run.now.steps.items step_of,
      c.len-i-end.ensures,
      c.args.run.now.steps.ok.0,
    )) c.loop-i.invariant

pub returns-clause-refused : goal.returns-clause-refused
returns-clause-refused c = λ bad k.
    let p = program_of c.args.p.now in
    let r = run_of c.args.run.now in
    let whole = whole_replay p r c.loop-i.i c.loop-i.standing
    (omega (
      arith,
      c.loop-i-test.false,
      length-map c.args.run.now.steps.items step_of,
      c.len-i-end.ensures,
      c.args.run.now.steps.ok.0,
    )) c.loop-i.invariant in
    c.replays_are_decided.ensures.none_bad p r.start (last_first r) bad whole.run k
