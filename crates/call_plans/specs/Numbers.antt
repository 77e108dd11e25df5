-- The numbers of the statuses.
use Rattle.std.specs.Prelude.{ℕ}
use Rattle.call_plans.specs.declared.status.Status.{Status}
use Rattle.call_plans.specs.declared.status.Status.TheVariants.{Done, Unknown, Usage, ReadFault, WriteFault, Memory}
use Rattle.call_plans.specs.declared.status.Status.TheVariants.{ProgramRefused, ProofRefused, NotAccepted, RunRefused}
use Rattle.call_plans.specs.declared.status.Status.TheVariants.{NotARun}

-- the number with which the process ends
abbrev pub number_of : Status → ℕ
number_of Done = 0
number_of Unknown = 1
number_of Usage = 2
number_of ReadFault = 3
number_of WriteFault = 4
number_of Memory = 5
number_of ProgramRefused = 6
number_of ProofRefused = 7
number_of NotAccepted = 8
number_of RunRefused = 9
number_of NotARun = 10
