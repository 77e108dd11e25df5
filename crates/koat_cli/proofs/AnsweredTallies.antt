-- The answer on a run in range: the tally along it, within the bounds beside it.
use Rattle.std.proofs.Common.{◌≡◌, ℕ, List, refl, ◌∙◌, ap, inl}
use Rattle.its_model.specs.Valid.{IsValid}
use Rattle.model.specs.Programs.{Program}
use Rattle.model.specs.Runs.{sizes_of_start}
use Rattle.command_line.specs.Requests.{default_pivots}
use Rattle.outcome.specs.Holding.{IsReportOn, ReportHolds}
use Rattle.outcome.specs.Reports.{Report}
use Rattle.run_replay.specs.ReplayAnswers.{IsReplay, last_first}
use Rattle.run_replay.specs.ReplayLaws.{ReplaysAreDecided}
use Rattle.run_replay.specs.Replays.{Sums}
use Rattle.run_replay.specs.Runs.{Run}
use Rattle.time_bounds.specs.Analysis.{IsAnalysis}
use Rattle.time_bounds.specs.Whys.{ReasonsAreTrue}
use Rattle.call_plans.specs.declared.status.Status.TheVariants.{Done}
use Rattle.call_plans.specs.Plans.{HasRow}
use Rattle.koat_cli.specs.Commands.Replay.{replay_answers}
use Rattle.koat_cli.specs.ReplayTexts.{text_of_replay}
use Rattle.koat_cli.proofs.WithinBounds.{tally_within}

pub tally_answered : ReplaysAreDecided → (p : Program) (run : Run) (r : Report) (tally : Sums) (at x : List ℕ) → IsValid p
    → IsReplay p run tally → IsAnalysis p default_pivots r → ReportHolds p r → ReasonsAreTrue p default_pivots r
    → IsReportOn p r → at ≡ sizes_of_start run.start → x ≡ text_of_replay at tally r
    → HasRow (replay_answers p run) Done x
tally_answered law p run r tally at x valid replayed found holds reasons on sizes result_is =
    inl (
      refl,
      record {
        in_range = replayed.run;
        report = r;
        found = record { found = found; true_on_all_runs = holds; reasons = reasons };
        on_program = on;
        within_bounds = tally_within law p r run.start (last_first run) valid on holds replayed.run;
        result_is = result_is
            ∙ (ap (λ (sizes : List ℕ). text_of_replay sizes tally r) sizes
            ∙ ap (λ (sums : Sums). text_of_replay (sizes_of_start run.start) sums r) replayed.tally);
      },
    )
