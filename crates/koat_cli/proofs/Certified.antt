-- Texts of proof files that are accepted.
use Rattle.std.proofs.Common.{ℕ, List, inl, inr}
use Rattle.model.specs.Programs.{Program}
use Rattle.outcome.specs.declared.outcome_of.Outcome.{Outcome}
use Rattle.analysis_certs.specs.ProvedFiles.{file_of_outcome}
use Rattle.call_plans.specs.declared.status.Status.{Status}
use Rattle.call_plans.specs.Plans.{HasRow}
use Rattle.proof_forms.specs.Texts.{Plain}
use Rattle.koat_cli.specs.Commands.Prove.{IsProved, prove_answers}
use Rattle.koat_cli.specs.Commands.Certify.{StatesCertificate}
use Rattle.koat_cli.proofs.FirstForms.{plain_begins}

-- a proof file of an analysis
of_proved : (p : Program) (n : ℕ) (o : Outcome) (x : List ℕ) → IsProved p n o x → StatesCertificate p x
of_proved p n o x proved = record {
  proof = Plain (file_of_outcome o);
  stands = (plain_begins p x (file_of_outcome o) proved.result_is, proved.result_is);
  accepted = proved.accepted;
}

-- what `prove` writes
pub proved_certifies : (p : Program) (n : ℕ) (s : Status) (x : List ℕ) → HasRow (prove_answers n p) s x
    → StatesCertificate p x
proved_certifies p n s x (inl (e, report)) = of_proved p n report.holds.outcome x report.holds.proved
proved_certifies p n s x (inr (inl (e, report))) = of_proved p n report.holds.outcome x report.holds.proved
proved_certifies p n s x (inr (inr never)) = absurd never
