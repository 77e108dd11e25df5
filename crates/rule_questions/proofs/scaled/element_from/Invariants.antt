use Rattle.std.proofs.Common.{◌≡◌, ◌+◌}
use Rattle.poly_terms.specs.linear_forms.Forms.{at}
use Rattle.poly_terms.specs.linear_forms.Questions.{listed}
use Rattle.rule_questions.proofs.scaled.element_from.Given as goal

-- the numerators are those of the unknowns so far
abbrev pub invariant-loop-unknown : goal.invariant-loop-unknown
invariant-loop-unknown l = l.parts.items ≡ listed l.unknown (λ u. at l.numbers (l.start + u))
