-- The printed lemmas and gaps of an analysis are the text of its proof file.
use Rattle.std.proofs.Common.{◌≡◌, ℕ, List, refl, sym}
use Rattle.its_model.specs.Valid.{IsValid}
use Rattle.model.specs.Programs.{Program}
use Rattle.outcome.specs.Holding.{ReportHolds}
use Rattle.outcome.specs.Views.{report_of}
use Rattle.outcome.specs.declared.outcome_of.Outcome.{Outcome}
use Rattle.cert_text.specs.Texts.{text_of}
use Rattle.analysis_certs.specs.ProvedFiles.{IsOutcomeOf, file_of_outcome}
use Rattle.analysis_certs.proofs.ProvedFiles.{proved-accepted}
use Rattle.time_bounds.specs.Analysis.{IsAnalysis}
use Rattle.time_bounds.specs.AnalysisLemmas.{HasLemmas}
use Rattle.time_bounds.specs.Whys.{ReasonsAreTrue}
use Rattle.call_plans.specs.declared.status.Status.{Status}
use Rattle.call_plans.specs.Plans.{HasRow}
use Rattle.koat_cli.specs.Found.{status_of}
use Rattle.koat_cli.specs.Commands.Prove.{StatesProof, prove_answers}
use Rattle.koat_cli.proofs.ReportTables.{report_answered}

-- the text of the proof file of the outcome is the answer
pub proof_file_answered : (p : Program) (pivots : ℕ) (o : Outcome) (s : Status) (x : List ℕ) → IsValid p
    → IsAnalysis p pivots (report_of o) → ReportHolds p (report_of o) → ReasonsAreTrue p pivots (report_of o)
    → HasLemmas p pivots o → s ≡ status_of (report_of o) → x ≡ text_of p (file_of_outcome o)
    → HasRow (prove_answers pivots p) s x
proof_file_answered p pivots o s x valid found holds reasons lemmas ends result_is =
    let is : IsOutcomeOf p pivots o = record { found = found; lemmas = lemmas } in
    report_answered (IsAnalysis p pivots) (StatesProof p pivots) (report_of o) s x ends (record {
      outcome = o;
      reported = refl;
      proved = record {
        found = record { found = found; true_on_all_runs = holds; reasons = reasons };
        lemmas = lemmas;
        accepted = proved-accepted.accepted p pivots o valid is;
        result_is = record { text = sym result_is; within = proved-accepted.within p pivots o valid is };
      };
    })
