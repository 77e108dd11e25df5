use Rattle.std.proofs.Common.{List, ℤ, map, nat_abs, ◌∙◌, ap}
use Rattle.its_model.specs.Views.{program_of}
use Rattle.outcome.specs.Views.{report_of}
use Rattle.run_replay.specs.ReplayAnswers.{sums_of}
use Rattle.run_replay.specs.Views.{run_of}
use Rattle.koat_cli.proofs.AnsweredTallies.{tally_answered}
use Rattle.koat_cli.proofs.replaying.tally_answer.Goals as goal

pub returns : goal.returns
returns c =
    tally_answered c.replays_are_decided.ensures (program_of c.args.program.now) (run_of c.args.run.now)
    (report_of c.in_ok-found.found) (sums_of c.args.tally.now) c.deref-2.result.now c.in_ok-replay_text.field-0.items
    c.requires.valid c.requires.replayed c.in_ok-found.ensures.found c.in_ok-found.ensures.holds
    c.in_ok-found.ensures.reasons c.in_ok-found.ensures.fits
    (c.deref-2.ensures.value ∙ (c.in_ok-at.ensures ∙ ap (λ (values : List ℤ). map nat_abs values) c.deref.ensures.value))
    c.in_ok-replay_text.ensures
