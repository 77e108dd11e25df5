use Rattle.std.proofs.Common.{◌≡◌, ◌∙◌, ◌+◌, ◌-◌, ◌<◌, ℕ, List, ℤ, length, map, get_or, sym, ap, subst, arith}
use Rattle.std.proofs.lemmas.List.{length-map, get_or-map}
use Rattle.its_model.specs.declared.program.Program.{Program}
use Rattle.its_model.specs.declared.run.Config.{Config}
use Rattle.its_model.specs.declared.run.Step.{Step}
use Rattle.its_model.specs.model.Runs as runs
use Rattle.its_model.specs.StepAnswers.{fault_of}
use Rattle.its_model.specs.Views.{program_of, config_of, step_of}
use Rattle.run_replay.specs.declared.file.RunFile.{RunFile}
use Rattle.run_replay.specs.declared.replaying.Standing.{Standing}
use Rattle.run_replay.specs.Views.{run_of}
use Rattle.run_replay.specs.ReplayAnswers.{first_steps, sums_of, Notes, ReplayIsAfter}
use Rattle.run_replay.proofs.ReplayFaults.{replay_steps}
use Rattle.run_replay.proofs.ReplayStands.{IsNotable, notable, first_length, bad_first, refuses, stands_next}
use Rattle.run_replay.proofs.replaying.Standing.step_on.Goals as goal

-- the step at the index is that of the run
read_step : (steps : List Step) (i : ℕ) (x : Step) → i < length steps → x ≡ get_or steps i x
    → step_of x ≡ get_or (map step_of steps) i (step_of x)
read_step steps i x low e = ap step_of e ∙ sym (get_or-map step_of steps i x (step_of x) low)

-- the index is one of the steps
read_within : (steps : List Step) (i : ℕ) → i < length steps → i < length (map step_of steps)
read_within steps i low = omega (arith, low, length-map steps step_of)

-- the properties of the tally so far that adding the step requires
offers : (p : Program) (run : RunFile) (i : ℕ) (s : Standing) (x : Step) (d : Config)
    → ReplayIsAfter (program_of p) (run_of run) i s
    → runs.IsStep (program_of p) (config_of s.walk.here) (step_of x) (config_of d)
    → IsNotable (sums_of s.tally) (step_of x) (first_steps (run_of run) i) d.values.items
offers p run i s x d h step =
    notable (program_of p) run.start.items (first_steps (run_of run) i) (sums_of s.tally) (config_of s.walk.here)
    (step_of x) (config_of d) h.tally step

pub step_on-requires-clause-walks : goal.step_on-requires-clause-walks
step_on-requires-clause-walks c = c.requires.stands.walks

pub note-requires-clause-rule : goal.note-requires-clause-rule
note-requires-clause-rule c =
    (offers c.args.p.now c.args.run.now c.args.i c.args.self.now c.index-step.result.now c.step_on.new.self.here
    c.requires.stands c.in-Ok.ensures.step).rule

pub note-requires-clause-counted : goal.note-requires-clause-counted
note-requires-clause-counted c =
    (offers c.args.p.now c.args.run.now c.args.i c.args.self.now c.index-step.result.now c.step_on.new.self.here
    c.requires.stands c.in-Ok.ensures.step).counted

pub note-requires-clause-sized : goal.note-requires-clause-sized
note-requires-clause-sized c =
    let o = offers c.args.p.now c.args.run.now c.args.i c.args.self.now c.index-step.result.now c.step_on.new.self.here
    c.requires.stands c.in-Ok.ensures.step in
    omega (arith, o.sized, length-map c.args.self.now.tally.greatest.items (λ row. row.items))

pub note-requires-clause-places : goal.note-requires-clause-places
note-requires-clause-places c =
    (offers c.args.p.now c.args.run.now c.args.i c.args.self.now c.index-step.result.now c.step_on.new.self.here
    c.requires.stands c.in-Ok.ensures.step).places ∙ sym (ap length c.deref.ensures.value)

pub note-requires-clause-steps : goal.note-requires-clause-steps
note-requires-clause-steps c =
    let o = offers c.args.p.now c.args.run.now c.args.i c.args.self.now c.index-step.result.now c.step_on.new.self.here
    c.requires.stands c.in-Ok.ensures.step in
    let n = first_length (run_of c.args.run.now) c.args.i
    (omega (arith, read_within c.args.run.now.steps.items c.args.i c.requires.step)) in
    omega (arith, o.steps, n, c.requires.step, c.args.run.now.steps.ok.0, c.args.run.now.steps.ok.1, c.args.run.now.steps.small)

pub note-requires-clause-count : goal.note-requires-clause-count
note-requires-clause-count c =
    let o = offers c.args.p.now c.args.run.now c.args.i c.args.self.now c.index-step.result.now c.step_on.new.self.here
    c.requires.stands c.in-Ok.ensures.step in
    let n = first_length (run_of c.args.run.now) c.args.i
    (omega (arith, read_within c.args.run.now.steps.items c.args.i c.requires.step)) in
    omega (arith, o.count, n, c.requires.step, c.args.run.now.steps.ok.0, c.args.run.now.steps.ok.1, c.args.run.now.steps.small)

pub note-requires-clause-charged : goal.note-requires-clause-charged
note-requires-clause-charged c =
    (offers c.args.p.now c.args.run.now c.args.i c.args.self.now c.index-step.result.now c.step_on.new.self.here
    c.requires.stands c.in-Ok.ensures.step).charged

pub returns-in-Ok : goal.returns-in-Ok
returns-in-Ok c =
    let p = program_of c.args.p.now in
    let r = run_of c.args.run.now in
    let old = c.args.self.now in
    let x = c.index-step.result.now in
    let steps = c.args.run.now.steps.items in
    let new : Standing = record { walk = c.step_on.new.self; tally = c.note.new.self } in
    stands_next (replay_steps c.steps_have_no_fault.ensures c.costs_have_no_fault.ensures) p r c.args.i (step_of x)
    c.in-Ok.cost old new
    (read_within steps c.args.i c.requires.step) (read_step steps c.args.i x c.requires.step c.index-step.ensures)
    c.requires.stands c.in-Ok.ensures.step c.in-Ok.ensures.fault c.in-Ok.ensures.cost
    (subst (λ (v : List ℤ). Notes (x.rule - 1) v c.in-Ok.cost (sums_of old.tally) (sums_of c.note.new.self))
    c.deref.ensures.value c.note.ensures)
    c.step_on.ensures.walks

pub returns-in-Err : goal.returns-in-Err
returns-in-Err c =
    let p = program_of c.args.p.now in
    let r = run_of c.args.run.now in
    let x = c.index-step.result.now in
    let steps = c.args.run.now.steps.items in
    refuses p r (record { number = c.args.i + 1; fault = fault_of c.in-Err.error }) c.error_at.result c.error_at.ensures
    (bad_first p r c.args.i (step_of x) (config_of c.args.self.now.walk.here) (fault_of c.in-Err.error)
    (read_within steps c.args.i c.requires.step) (read_step steps c.args.i x c.requires.step c.index-step.ensures)
    c.requires.stands.runs c.in-Err.ensures.fault)
