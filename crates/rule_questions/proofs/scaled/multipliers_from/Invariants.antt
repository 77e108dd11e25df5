use Rattle.std.proofs.Common.{◌≡◌, ◌+◌}
use Rattle.std.specs.Prelude.{nat_abs}
use Rattle.poly_terms.specs.linear_forms.Forms.{at}
use Rattle.poly_terms.specs.linear_forms.Questions.{listed}
use Rattle.rule_questions.proofs.scaled.multipliers_from.Given as goal

-- the multipliers are those of the rows so far
abbrev pub invariant-loop-row : goal.invariant-loop-row
invariant-loop-row l = l.multipliers.items ≡ listed l.row (λ j. nat_abs (at l.numbers (l.start + j)))
