-- `check`: the verdict on a proof file for a program.
use Rattle.model.specs.Programs.{Program}
use Rattle.proof_forms.specs.Texts.{ProofText}
use Rattle.form_verdicts.specs.Verdicts.{Accepts, IsAcceptanceOf, IsRefusalOf}
use Rattle.call_plans.specs.declared.status.Status.TheVariants.{Done, NotAccepted}
use Rattle.call_plans.specs.Plans.{Cases, End, Case}

-- the table of `check`: `Done` if the file is accepted, with all that it states, which holds on every run of the
-- program: of the first two forms the facts of its lemmas and its gaps, of the third form the facts at symbols that all
-- copies of a symbol have, and what its claims state; and `NotAccepted` if it isn't, with the first part that isn't
-- accepted, and why
abbrev pub check_answers : Program → ProofText → Cases
check_answers program proof =
    Case Done (Accepts program proof) (IsAcceptanceOf program proof)
    (Case NotAccepted (¬ (Accepts program proof)) (IsRefusalOf program proof) End)
