use Rattle.std.proofs.Common.{ℕ, length, All, subst}
use Rattle.std.proofs.lemmas.List.{length-map}
use Rattle.std.proofs.lemmas.Result.{IfOk-weaker}
use Rattle.its_model.specs.declared.program.Program.{Program}
use Rattle.its_model.specs.Views.{name_of, program_of}
use Rattle.outcome.specs.Holding.{ReportHolds, IsReportOn}
use Rattle.outcome.specs.Printing.{HasItsGap, IsPrintableOutcome}
use Rattle.outcome.specs.Views.{report_of}
use Rattle.time_bounds.specs.Analysis.{IsAnalysis}
use Rattle.time_bounds.specs.AnalysisLemmas.{HasLemmas}
use Rattle.time_bounds.specs.Questions.{program_in}
use Rattle.time_bounds.specs.Whys.{ReasonsAreTrue}
use Rattle.time_bounds.proofs.AnswerLaws.{both}
use Rattle.time_bounds.proofs.PrintableOutcomes.{analysis_printable}
use Rattle.time_bounds.proofs.ReportEntries.{report_holds, report_fits}
use Rattle.time_bounds.proofs.TrueWhys.{reasons_so}
use Rattle.time_bounds.proofs.analysing.analyse.Goals as goal

pub returns-clause-found : goal.returns-clause-found
returns-clause-found c =
    IfOk-weaker c.analysed.result (λ o. IsAnalysis (program_in c.in_ok-cx.cx) c.in_ok-cx.cx.pivots (report_of o))
    (λ o. IsAnalysis (program_of c.args.p.now) c.args.pivots (report_of o))
    (λ o h. subst (λ (n : ℕ). IsAnalysis (program_of c.args.p.now) n (report_of o)) c.in_ok-cx.ensures.pivots
    (subst (λ (p : Program). IsAnalysis (program_of p) c.in_ok-cx.cx.pivots (report_of o)) c.in_ok-cx.ensures.program h))
    c.analysed.ensures.found

pub returns-clause-holds : goal.returns-clause-holds
returns-clause-holds c =
    IfOk-weaker c.analysed.result (λ o. IsAnalysis (program_of c.args.p.now) c.args.pivots (report_of o))
    (λ o. ReportHolds (program_of c.args.p.now) (report_of o))
    (λ o h. report_holds (program_of c.args.p.now) c.args.pivots c.requires (report_of o) h) (returns-clause-found c)

pub returns-clause-reasons : goal.returns-clause-reasons
returns-clause-reasons c =
    IfOk-weaker c.analysed.result (λ o. IsAnalysis (program_of c.args.p.now) c.args.pivots (report_of o))
    (λ o. ReasonsAreTrue (program_of c.args.p.now) c.args.pivots (report_of o))
    (λ o h. reasons_so (program_of c.args.p.now) c.args.pivots c.requires (report_of o) h) (returns-clause-found c)

pub returns-clause-fits : goal.returns-clause-fits
returns-clause-fits c =
    IfOk-weaker c.analysed.result (λ o. IsAnalysis (program_of c.args.p.now) c.args.pivots (report_of o))
    (λ o. IsReportOn (program_of c.args.p.now) (report_of o))
    (λ o h. report_fits (program_of c.args.p.now) c.args.pivots c.requires (report_of o) h) (returns-clause-found c)

pub returns-clause-printable : goal.returns-clause-printable
returns-clause-printable c =
    both c.analysed.result (λ o. IsAnalysis (program_of c.args.p.now) c.args.pivots (report_of o))
    (λ o. All (HasItsGap (length o.gaps.items)) o.times.items)
    (λ o. IsPrintableOutcome (length c.args.p.now.start_names.items) o)
    (λ o h gaps. subst (λ (n : ℕ). IsPrintableOutcome n o) (length-map c.args.p.now.start_names.items name_of)
    (analysis_printable (program_of c.args.p.now) c.args.pivots o c.requires h gaps)) (returns-clause-found c) c.analysed.ensures.gaps

pub returns-clause-lemmas : goal.returns-clause-lemmas
returns-clause-lemmas c =
    IfOk-weaker c.analysed.result (λ o. HasLemmas (program_in c.in_ok-cx.cx) c.in_ok-cx.cx.pivots o)
    (λ o. HasLemmas (program_of c.args.p.now) c.args.pivots o)
    (λ o h. subst (λ (n : ℕ). HasLemmas (program_of c.args.p.now) n o) c.in_ok-cx.ensures.pivots
    (subst (λ (p : Program). HasLemmas (program_of p) c.in_ok-cx.cx.pivots o) c.in_ok-cx.ensures.program h))
    c.analysed.ensures.lemmas
