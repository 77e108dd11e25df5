use Rattle.std.proofs.Common.{◌*◌, ◌&&◌, Bool, ap, sym, ◌∙◌}
use Rattle.std.specs.Prelude.{nat_le}
use Rattle.signed_bounds.specs.Limits.{constant_limit}
use Rattle.signed_bounds.specs.Products.{number_sum}
use Rattle.signed_bounds.specs.Views.{signed_of}
use Rattle.signed_within.proofs.SizeLoops.{sum_test}
use Rattle.signed_within.proofs.sizes.is_multipliable.Goals as goal

pub returns-then-is_expandable : goal.returns-then-is_expandable
returns-then-is_expandable c =
    let bound = signed_of c.args.bound.now in
    let rest = nat_le (c.args.times * number_sum bound) constant_limit in
    sum_test (number_sum bound) c.args.times c.number_sum.result c.saturating_mul.result c.number_sum.ensures
    c.saturating_mul.ensures
    ∙ ap (λ (v : Bool). v && rest) (sym c.if-is_expandable.true ∙ c.is_expandable.ensures)
