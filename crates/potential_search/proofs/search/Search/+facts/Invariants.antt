use Rattle.std.proofs.Common.{◌+◌, ◌*◌}
use Rattle.potential_search.proofs.search.Search.+facts.Given as goal

-- a question about a gain is one level below the one that it is asked for; within a level, a peak leads to a potential that
-- covers it, that to the sums of its gains, and these to the peaks of the next level
abbrev pub decreases-peak : goal.decreases-peak
decreases-peak l = 8 * l.levels + 6

abbrev pub decreases-new_peak : goal.decreases-new_peak
decreases-new_peak l = 8 * l.levels + 5

abbrev pub decreases-local_peak : goal.decreases-local_peak
decreases-local_peak l = 8 * l.levels + 4

abbrev pub decreases-covering : goal.decreases-covering
decreases-covering l = 8 * l.levels + 3

abbrev pub decreases-look_for_places : goal.decreases-look_for_places
decreases-look_for_places l = 8 * l.levels + 2

abbrev pub decreases-gain_fact : goal.decreases-gain_fact
decreases-gain_fact l = 8 * l.levels + 2

abbrev pub decreases-sum : goal.decreases-sum
decreases-sum l = 8 * l.levels + 1

abbrev pub decreases-new_sum : goal.decreases-new_sum
decreases-new_sum l = 8 * l.levels
