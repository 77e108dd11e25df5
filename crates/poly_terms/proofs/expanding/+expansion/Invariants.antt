use Rattle.std.proofs.Common.{suc, ◌+◌, ◌*◌}
use Rattle.poly_terms.specs.Views.{term_of}
use Rattle.poly_terms.proofs.Weights.{weight}
use Rattle.poly_terms.proofs.expanding.+expansion.Given as goal

-- the remaining nodes are fewer
abbrev pub decreases-expansion : goal.decreases-expansion
decreases-expansion l = 2 * weight (term_of l.e.now)

abbrev pub decreases-both : goal.decreases-both
decreases-both l = 2 * (weight (term_of l.d.now) + weight (term_of l.e.now))

abbrev pub decreases-difference : goal.decreases-difference
decreases-difference l = suc (2 * (weight (term_of l.d.now) + weight (term_of l.e.now)))
