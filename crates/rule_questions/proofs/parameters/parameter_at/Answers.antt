use Rattle.std.proofs.Common.{◌≡◌, ◌*◌, arith, refl}
use Rattle.std.specs.Prelude.{◌-ℤ◌}
use Rattle.std.proofs.lemmas.Int.{ints}
use Rattle.poly_terms.specs.linear_forms.Forms.{at}
use Rattle.poly_terms.specs.linear_forms.QuestionLaws.{parameters_of}
use Rattle.rule_questions.proofs.Pairs.{parameter-value}
use Rattle.rule_questions.proofs.parameters.parameter_at.Goals as goal

pub returns : goal.returns
returns c =
    let l = c.column_at.ensures.small in
    let m = c.column_at-2.ensures.small in
    let e : c.column_at.result -ℤ c.column_at-2.result ≡ parameters_of (at c.args.numbers.now) c.args.parameter =
    parameter-value (at c.args.numbers.now) c.args.parameter
    (2 * c.args.parameter) _ _ refl c.column_at.ensures.value c.column_at-2.ensures.value in
    omega (arith, ints, l, m, e)
