use Rattle.std.proofs.Common.{ap, sym, ◌∙◌, arith}
use Rattle.std.specs.Prelude.{ℤ}
use Rattle.std.specs.Int.{w128}
use Rattle.std.proofs.lemmas.Int.{to_z-of_z}
use Rattle.poly_terms.specs.Views.{term_of}
use Rattle.poly_terms.specs.Checked.{value_within}
use Rattle.affine_constants.specs.Constants.{unit, is_value}
use Rattle.affine_constants.proofs.Units.{agrees-stops}
use Rattle.affine_constants.proofs.constant.agrees_at_units.Goals as goal

pub returns-then-not-agrees : goal.returns-then-not-agrees
returns-then-not-agrees c =
    let t = term_of c.args.e.now in
    let here = value_within t (unit c.args.variables c.loop-variable.variable) in
    let passed = to_z-of_z w128 c.args.value c.ranges.value in
    sym (agrees-stops c.args.variables t c.args.value c.loop-variable.variable c.args.variables (omega arith)
    (ap (λ (z : ℤ). is_value z here) (sym passed) ∙ (sym c.in_ok-agrees.ensures ∙ c.if-not-agrees.true)))
