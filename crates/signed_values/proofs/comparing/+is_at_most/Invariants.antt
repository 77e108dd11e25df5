use Rattle.std.proofs.Common.{length}
use Rattle.signed_values.proofs.comparing.+is_at_most.Given as goal

-- fewer starts are left with each call
abbrev pub decreases-is_at_most : goal.decreases-is_at_most
decreases-is_at_most l = length l.starts.now
