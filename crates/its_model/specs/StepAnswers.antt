-- The meaning of the errors of a step.
use Rattle.std.specs.Prelude.{◌≡◌, ℕ, ℤ, if◌then◌else◌, Option, Some, None, MatchOption}
use Rattle.poly_terms.specs.model.Programs.{Relation}
use Rattle.its_model.specs.declared.step_error.StepError.{StepError}
use Rattle.its_model.specs.declared.step_error.StepError.TheVariants as code
use Rattle.its_model.specs.Steps.{StepFault, OtherRule, AtomFails, PastRange, is_related}

-- The fault that an error names.
abbrev pub fault_of : StepError → StepFault
fault_of code.WrongRule = OtherRule
fault_of (code.GuardFails atom) = AtomFails atom
fault_of code.PassedRange = PastRange

-- The fault of a comparison with a number; a side without a value exceeds 128 bits.
abbrev pub comparison_fault : Option ℤ → Relation → Option ℤ → ℕ → Option StepFault
comparison_fault (Some x) r (Some y) n = if is_related r x y then None else Some (AtomFails n)
comparison_fault (Some x) r None n = Some PastRange
comparison_fault None r y n = Some PastRange

-- The answer is that fault.
abbrev pub ComparisonError : Option StepError → Option ℤ → Relation → Option ℤ → ℕ → Type 0
ComparisonError result x r y n = MatchOption result (comparison_fault x r y n ≡ None) (λ e. comparison_fault x r y n
    ≡ Some (fault_of e))
