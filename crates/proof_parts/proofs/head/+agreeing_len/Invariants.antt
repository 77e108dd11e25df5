use Rattle.std.proofs.Common.{length}
use Rattle.proof_parts.proofs.head.+agreeing_len.Given as goal

abbrev pub decreases-agreeing_len : goal.decreases-agreeing_len
decreases-agreeing_len l = length l.bytes.now
