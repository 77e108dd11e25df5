-- The three sorts of statuses.
use Rattle.call_plans.specs.declared.status.Status.{Status}
use Rattle.call_plans.specs.declared.status.Status.TheVariants.{Done, Unknown, Usage, ReadFault, WriteFault, Memory}
use Rattle.call_plans.specs.declared.status.Status.TheVariants.{ProgramRefused, ProofRefused, NotAccepted, RunRefused}
use Rattle.call_plans.specs.declared.status.Status.TheVariants.{NotARun}

-- statuses that give the result of texts that were read, those that refuse a text, and the others
pub data Sort : Type 0 where
  Answer : Sort
  Refusal : Sort
  Other : Sort

-- the sort of a status
abbrev pub sort_of : Status → Sort
sort_of Done = Answer
sort_of Unknown = Answer
sort_of Usage = Other
sort_of ReadFault = Other
sort_of WriteFault = Other
sort_of Memory = Other
sort_of ProgramRefused = Refusal
sort_of ProofRefused = Refusal
sort_of NotAccepted = Answer
sort_of RunRefused = Refusal
sort_of NotARun = Answer
