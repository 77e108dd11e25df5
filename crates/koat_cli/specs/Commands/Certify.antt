-- `certify`: a proof file that the checker accepts.
use Rattle.std.specs.Prelude.{ℕ, List, ⊤}
use Rattle.model.specs.Programs.{Program}
use Rattle.proof_forms.specs.Texts.{ProofText, StandsFor}
use Rattle.form_verdicts.specs.Verdicts.{Accepts}
use Rattle.call_plans.specs.declared.status.Status.TheVariants.{Done}
use Rattle.call_plans.specs.Plans.{Cases, End, Case}

-- the text is that of a proof file, which is accepted for the program
pub record StatesCertificate (program : Program) (text : List ℕ) : Type 0 where
  pub proof : ProofText
  pub stands : StandsFor program text proof
  pub accepted : Accepts program proof

-- the table of `certify`: always `Done`, with a proof file that is accepted. Which one it is depends on what is found.
abbrev pub certify_answers : Program → Cases
certify_answers program = Case Done ⊤ (StatesCertificate program) End
