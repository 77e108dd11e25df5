use Rattle.std.proofs.Common.{length}
use Rattle.report_text.proofs.gaps.+push_points.Given as goal

-- fewer numbers are left with each call
abbrev pub decreases-push_points : goal.decreases-push_points
decreases-push_points l = length l.set.now
