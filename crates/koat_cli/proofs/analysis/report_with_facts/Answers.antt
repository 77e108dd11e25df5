use Rattle.its_model.specs.Views.{program_of}
use Rattle.outcome.specs.Views.{report_of}
use Rattle.koat_cli.specs.Commands.Facts.{IsAnalysisWithFacts, StatesFacts}
use Rattle.koat_cli.proofs.ReportTables.{report_answered}
use Rattle.koat_cli.proofs.analysis.report_with_facts.Goals as goal

pub returns : goal.returns
returns c =
    let p = program_of c.args.program.now in
    let o = c.in_ok-found.found.outcome in
    report_answered (IsAnalysisWithFacts p c.args.pivots) (StatesFacts p c.args.pivots) (report_of o) c.status_of.result
    c.in_ok-text.text.items c.status_of.ensures (record {
      facts = c.in_ok-found.found.kept.items;
      found = c.in_ok-found.ensures.found;
      result_is = c.in_ok-text.ensures;
    })
