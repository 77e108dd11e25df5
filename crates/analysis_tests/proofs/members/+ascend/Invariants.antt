use Rattle.std.proofs.Common.{length}
use Rattle.analysis_tests.proofs.members.+ascend.Given as goal

-- fewer members are left
abbrev pub decreases-ascend : goal.decreases-ascend
decreases-ascend l = length l.members.now
