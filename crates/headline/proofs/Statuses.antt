-- The statuses with the numbers 0 and 1.
use Rattle.std.proofs.Common.{◌≡◌, refl, arith}
use Rattle.call_plans.specs.declared.status.Status.{Status}
use Rattle.call_plans.specs.declared.status.Status.TheVariants.{Done, Unknown, Usage, ReadFault, WriteFault, Memory}
use Rattle.call_plans.specs.declared.status.Status.TheVariants.{ProgramRefused, ProofRefused, NotAccepted, RunRefused}
use Rattle.call_plans.specs.declared.status.Status.TheVariants.{NotARun}
use Rattle.call_plans.specs.Numbers.{number_of}

-- the status with number 0
pub done_of : (s : Status) → number_of s ≡ 0 → s ≡ Done
done_of Done e = refl
done_of Unknown e = absurd (omega (arith, e))
done_of Usage e = absurd (omega (arith, e))
done_of ReadFault e = absurd (omega (arith, e))
done_of WriteFault e = absurd (omega (arith, e))
done_of Memory e = absurd (omega (arith, e))
done_of ProgramRefused e = absurd (omega (arith, e))
done_of ProofRefused e = absurd (omega (arith, e))
done_of NotAccepted e = absurd (omega (arith, e))
done_of RunRefused e = absurd (omega (arith, e))
done_of NotARun e = absurd (omega (arith, e))

-- the status with number 1
pub unknown_of : (s : Status) → number_of s ≡ 1 → s ≡ Unknown
unknown_of Done e = absurd (omega (arith, e))
unknown_of Unknown e = refl
unknown_of Usage e = absurd (omega (arith, e))
unknown_of ReadFault e = absurd (omega (arith, e))
unknown_of WriteFault e = absurd (omega (arith, e))
unknown_of Memory e = absurd (omega (arith, e))
unknown_of ProgramRefused e = absurd (omega (arith, e))
unknown_of ProofRefused e = absurd (omega (arith, e))
unknown_of NotAccepted e = absurd (omega (arith, e))
unknown_of RunRefused e = absurd (omega (arith, e))
unknown_of NotARun e = absurd (omega (arith, e))
