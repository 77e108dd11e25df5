-- The rules of a valid program can be prepared.
use Rattle.std.proofs.Common.{◌≡◌, ℕ, suc, ◌<◌, ap, refl, ◌∙◌, length, get_or, Option, Some, option_map}
use Rattle.std.proofs.lemmas.Option.{slice_get_read, slice_get-map}
use Rattle.its_model.specs.declared.program.Program.{Program}
use Rattle.its_model.specs.declared.program.Rule.{Rule}
use Rattle.its_model.specs.Valid.{IsValid}
use Rattle.its_model.specs.Views.{rule_of, program_of}
use Rattle.guard_prep.specs.Laws.{IsPreparable}
use Rattle.guard_prep.proofs.StepLaws.{preparable}

-- a rule that was read of a valid program can be prepared
pub rule-preparable : (p : Program) (i : ℕ) (r : Rule) → IsValid (program_of p) → i < length p.rules.items
    → r ≡ get_or p.rules.items i r → IsPreparable (rule_of r)
rule-preparable p i r valid l e =
    preparable (program_of p) (suc i) (rule_of r) valid
    (slice_get-map rule_of p.rules.items i
    ∙ ap (λ (o : Option Rule). option_map rule_of o)
    (slice_get_read p.rules.items (length p.rules.items) i r refl l e))
