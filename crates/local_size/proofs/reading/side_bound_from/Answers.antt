use Rattle.std.proofs.Common.{◌≡◌, ℕ, ◌+◌, ◌*◌, ap, ◌∙◌, arith, List}
use Rattle.std.specs.Prelude.{ℤ, pos, nat_abs}
use Rattle.std.proofs.lemmas.Int.{ints}
use Rattle.simplex_core.specs.linear_forms.Forms.{at}
use Rattle.simplex_core.specs.linear_forms.Questions.{listed}
use Rattle.simplex_core.specs.linear_forms.QuestionLaws.{parameters_of}
use Rattle.local_size.specs.Asking.{kind_of, coefficient_of, constant_of}
use Rattle.local_size.proofs.Readings.{form-is, side_bound-is}
use Rattle.local_size.proofs.reading.side_bound_from.Goals as goal

pub returns : goal.returns
returns c =
    let left = c.args.left in
    let kind = kind_of c.args.kind in
    let numbers = c.args.solution.now.numbers.items in
    let den = c.args.solution.now.den in
    let constant : c.constant_from-constant.result ≡ constant_of left kind (parameters_of (at numbers)) =
    c.constant_from-constant.ensures ∙ ap (λ (ns : List ℤ). constant_of left kind (parameters_of (at ns)))
    c.deref-2.ensures.value in
    side_bound-is den _ _ _ _
    (form-is left kind (parameters_of (at numbers)) (pos den) _ _
    (c.in_ok-coefs.ensures ∙ ap (λ (ns : List ℤ). listed left (coefficient_of kind (parameters_of (at ns)) (pos den)))
    c.deref.ensures.value)
    (let t = c.constant_from-constant.type_inv in omega (arith, ints, constant, t)))
    (c.in_ok-multipliers.ensures
    ∙ (ap (λ (ns : List ℤ). listed c.args.rows (λ j. nat_abs (at ns (2 * c.sought_count-start.result + j))))
    c.deref-3.ensures.value
    ∙ ap (λ (n : ℕ). listed c.args.rows (λ j. nat_abs (at numbers (2 * n + j)))) c.sought_count-start.ensures))
