use Rattle.its_model.specs.Views.{program_of}
use Rattle.outcome.specs.Views.{report_of}
use Rattle.time_bounds.specs.Analysis.{IsAnalysis}
use Rattle.koat_cli.specs.Commands.Analyse.{StatesReport}
use Rattle.koat_cli.proofs.ReportTables.{report_answered}
use Rattle.koat_cli.proofs.analysis.report.Goals as goal

pub returns : goal.returns
returns c =
    let p = program_of c.args.program.now in
    let found = c.in_ok-found.ensures in
    let o = c.in_ok-found.found in
    report_answered (IsAnalysis p c.args.pivots) (StatesReport p c.args.pivots) (report_of o) c.status_of.result
    c.in_ok-text.text.items c.status_of.ensures (record {
      found = record { found = found.found; true_on_all_runs = found.holds; reasons = found.reasons };
      fits = c.numbers_fit.ensures;
      stated = record { report = found.fits; text_of = c.in_ok-text.ensures };
    })
