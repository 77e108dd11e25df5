use Rattle.std.proofs.Common.{◌≡◌}
use Rattle.std.specs.Prelude.{negsuc, ◌+ℤ◌, ◌*ℤ◌}
use Rattle.poly_terms.specs.linear_forms.Forms.{at}
use Rattle.poly_terms.specs.linear_forms.Questions.{listed}
use Rattle.rule_questions.proofs.rows.difference.Given as goal

-- the coefficients are the differences of those so far
abbrev pub invariant-loop-unknown : goal.invariant-loop-unknown
invariant-loop-unknown l =
    l.coefs.items ≡ listed l.unknown (λ u. at l.before.coefs.items u +ℤ negsuc 0 *ℤ at l.after.coefs.items u)
