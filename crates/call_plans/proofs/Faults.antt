-- When a fault of reading means that the shelf lacks a file.
use Rattle.std.proofs.Common.{◌≡◌, ◌≢◌, ℕ, List, inl, inr}
use Rattle.outside_io.specs.Counts.{Rose}
use Rattle.call_plans.specs.declared.status.Status.{Status}
use Rattle.call_plans.specs.declared.status.Status.TheVariants.{ReadFault}
use Rattle.call_plans.specs.Calls.{ShelfUse}
use Rattle.call_plans.specs.Endings.{FailsOnlyIfLacking}

-- if the count of faults doesn't rise, a fault of reading means that a file is lacking
pub fails_if_lacking_without_rise : (seen : ShelfUse) → ¬ (Rose seen.faults_before seen.faults_after) → (s : Status)
    → FailsOnlyIfLacking seen s
fails_if_lacking_without_rise seen none s is name (inl rose) = absurd (none rose)
fails_if_lacking_without_rise seen none s is name (inr lacks) = lacks

-- for any other status there is nothing to show
pub fails_if_lacking_other_status : (seen : ShelfUse) (s : Status) → s ≢ ReadFault → FailsOnlyIfLacking seen s
fails_if_lacking_other_status seen s other is = absurd (other is)
