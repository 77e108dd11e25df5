use Rattle.std.proofs.Common.{suc, ◌+◌, ◌*◌}
use Rattle.poly_terms.specs.Views.{term_of}
use Rattle.poly_terms.proofs.Weights.{weight}
use Rattle.poly_terms.proofs.forming.+forming.Given as goal

-- the remaining nodes are fewer
abbrev pub decreases-form_of : goal.decreases-form_of
decreases-form_of l = 2 * weight (term_of l.e.now)

abbrev pub decreases-both_forms : goal.decreases-both_forms
decreases-both_forms l = 2 * (weight (term_of l.d.now) + weight (term_of l.e.now))

abbrev pub decreases-difference_form : goal.decreases-difference_form
decreases-difference_form l = suc (2 * (weight (term_of l.d.now) + weight (term_of l.e.now)))
