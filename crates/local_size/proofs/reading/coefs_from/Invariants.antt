use Rattle.std.proofs.Common.{◌≡◌}
use Rattle.std.specs.Prelude.{pos}
use Rattle.simplex_core.specs.linear_forms.Forms.{at}
use Rattle.simplex_core.specs.linear_forms.Questions.{listed}
use Rattle.simplex_core.specs.linear_forms.QuestionLaws.{parameters_of}
use Rattle.local_size.specs.Asking.{kind_of, coefficient_of}
use Rattle.local_size.proofs.reading.coefs_from.Given as goal

-- the coefficients are those of the unknowns so far
abbrev pub invariant-loop-unknown : goal.invariant-loop-unknown
invariant-loop-unknown l =
    l.coefs.items ≡ listed l.unknown (coefficient_of (kind_of l.kind) (parameters_of (at l.numbers)) (pos l.den))
